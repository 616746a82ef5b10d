use Rattle.std.proofs.Common.{◌≡◌, ◌∙◌, ◌+◌, List, refl, sym, subst, arith, get_or}
use Rattle.std.proofs.lemmas.Grind.{common_steps}
use Rattle.rv_code.specs.declared.placed.Block.{Block}
use Rattle.edge_profile.specs.Profile.{profile_counts}
use Rattle.block_layout.specs.EdgeCounts.{edge_count}
use Rattle.block_layout.specs.declared.edge_counts.Edge.{Edge}
use Rattle.block_layout.proofs.Counting.{IsCountedTo, counted_zero, counted_more, counted_all, counted_once, edge_count-blocks}
use Rattle.block_layout.proofs.edge_counts.counted_edges.Goals as goal

pub loop-edge-preserved : goal.loop-edge-preserved
loop-edge-preserved c =
    let count = edge_count (profile_counts c.args.profile.now) c.args.funcs.now c.args.blocks.now in
    let none : Block = record { func = 0; first = 0; last = 0 } in
    let x = get_or c.args.edges.now c.loop-edge.edge-index (0, 0) in
    let within = c.requires.edges c.loop-edge.edge-index (0, 0) c.loop-edge-test.true in
    let own : count x ≡ c.count_along-count.result =
    edge_count-blocks (profile_counts c.args.profile.now) c.args.funcs.now c.args.blocks.now x none none within.0 within.1
    ∙ sym c.count_along-count.ensures in
    let e : Edge = record { from = x.0; to = x.1; count = c.count_along-count.result } in
    subst (λ (taken : List Edge). IsCountedTo count c.args.edges.now (c.loop-edge.edge-index + 1) taken)
    (sym c.in_ok-push.ensures.items)
    (counted_more count c.args.edges.now c.loop-edge.edge-index (0, 0) c.loop-edge-test.true c.loop-edge.taken.items
    c.loop-edge.invariant c.requires.ordered e refl own (omega (arith, c.if-count-eq0.false)))

pub loop-edge-preserved-then-count-eq0 : goal.loop-edge-preserved-then-count-eq0
loop-edge-preserved-then-count-eq0 c =
    let count = edge_count (profile_counts c.args.profile.now) c.args.funcs.now c.args.blocks.now in
    let none : Block = record { func = 0; first = 0; last = 0 } in
    let x = get_or c.args.edges.now c.loop-edge.edge-index (0, 0) in
    let within = c.requires.edges c.loop-edge.edge-index (0, 0) c.loop-edge-test.true in
    let own : count x ≡ c.count_along-count.result =
    edge_count-blocks (profile_counts c.args.profile.now) c.args.funcs.now c.args.blocks.now x none none within.0 within.1
    ∙ sym c.count_along-count.ensures in
    counted_zero count c.args.edges.now c.loop-edge.edge-index
    (0, 0) c.loop-edge-test.true c.loop-edge.taken.items c.loop-edge.invariant (own ∙ c.if-count-eq0.true)

pub returns-clause-counted : goal.returns-clause-counted
returns-clause-counted c = grind (arith, common_steps, counted_all)

pub returns-clause-once : goal.returns-clause-once
returns-clause-once c =
    let count = edge_count (profile_counts c.args.profile.now) c.args.funcs.now c.args.blocks.now in
    counted_once count c.args.edges.now c.loop-edge.edge-index c.loop-edge.taken.items _ c.loop-edge.invariant
    c.sort_edges.ensures.permutation
