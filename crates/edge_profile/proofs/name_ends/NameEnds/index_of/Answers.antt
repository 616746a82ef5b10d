use Rattle.std.proofs.Common.{◌-◌, ◌∙◌, length, drop, arith, sym, subst, List, ℕ, ap}
use Rattle.std.proofs.lemmas.List.{length-drop}
use Rattle.edge_profile.specs.NameEnds.{IsEnding, index_of}
use Rattle.edge_profile.proofs.TableIndices.{none-left, all-left, ends-more}
use Rattle.edge_profile.proofs.name_ends.NameEnds.index_of.Goals as goal

pub loop-index-init : goal.loop-index-init
loop-index-init c =
    subst (λ (end : List ℕ). IsEnding c.args.self.now.backward.items end c.all-ending.result)
    (sym (none-left c.args.name.now)) c.all-ending.ensures

pub narrowed-ending-requires-clause-short : goal.narrowed-ending-requires-clause-short
narrowed-ending-requires-clause-short c =
    let size = length-drop (length c.args.name.now - c.loop-index.index) c.args.name.now in
    omega (arith, size, c.loop-index.invariant.depth_is)

pub loop-index-preserved : goal.loop-index-preserved
loop-index-preserved c =
    subst (λ (end : List ℕ). IsEnding c.args.self.now.backward.items end c.narrowed-ending.result)
    (ends-more c.args.self.now.backward.items c.args.name.now c.loop-index.index _ c.loop-index-test.true)
    (c.narrowed-ending.ensures (drop (length c.args.name.now - c.loop-index.index) c.args.name.now) c.loop-index.invariant)

pub returns : goal.returns
returns c =
    c.named.ensures (drop (length c.args.name.now - c.loop-index.index) c.args.name.now) c.loop-index.invariant
    ∙ ap (index_of c.args.self.now.backward.items) (all-left c.args.name.now c.loop-index.index (omega
    (arith, c.loop-index-test.false)))
