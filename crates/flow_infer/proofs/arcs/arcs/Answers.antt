use Rattle.std.proofs.Common.{◌<◌, ℕ, length, sym, subst, ◌∙◌, get_or}
use Rattle.flow_infer.specs.Heights.{AreArcs, IsAmong}
use Rattle.flow_infer.proofs.Moves.{node_below}
use Rattle.flow_infer.proofs.arcs.arcs.Goals as goal

pub loop-place-preserved : goal.loop-place-preserved
loop-place-preserved c =
    let within : c.loop-place.place < length c.args.links.now = c.loop-place-test.true in
    let among : IsAmong c.args.first c.args.nodes (get_or c.args.links.now c.loop-place.place _) =
    c.requires.among c.loop-place.place _ within in
    let from : c.node-from.result < c.args.nodes =
    subst (λ (n : ℕ). n < c.args.nodes) (sym c.node-from.ensures) (node_below c.args.first c.args.nodes _ c.requires.some among.from) in
    let to : c.node-to.result < c.args.nodes =
    subst (λ (n : ℕ). n < c.args.nodes) (sym c.node-to.ensures) (node_below c.args.first c.args.nodes _ c.requires.some among.to) in
    let one : AreArcs (length c.args.links.now) c.args.nodes c.push_arc.new.around.items =
    c.in_ok-push_arc.ensures.arcs (length c.args.links.now) c.args.nodes (within, to) c.loop-place.invariant.1 in
    let two : AreArcs (length c.args.links.now) c.args.nodes c.push_arc-in-loop-place.new.around.items =
    c.in_ok-push_arc-2.ensures.arcs (length c.args.links.now) c.args.nodes (within, from) one in
    (c.push_arc-in-loop-place.ensures.length ∙ c.push_arc.ensures.length ∙ c.loop-place.invariant.0, two)
