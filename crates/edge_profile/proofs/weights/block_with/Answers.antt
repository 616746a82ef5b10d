use Rattle.std.proofs.Common.{◌∙◌, sym, arith}
use Rattle.edge_profile.proofs.Weighing.{block_at_last, block_at_none}
use Rattle.edge_profile.proofs.weights.block_with.Goals as goal

pub returns-then-ends_from-clause-has : goal.returns-then-ends_from-clause-has
returns-then-ends_from-clause-has c =
    let found = c.count_up_to-below.ensures in
    block_at_last c.args.blocks.now c.requires c.args.place.now.func c.args.place.now.inst c.count_up_to-below.result found.bound
    found.below found.above _
    (omega (arith, c.if-below-eq0.false)) (sym c.ends_from.ensures ∙ c.if-ends_from.true)

pub returns-else-ends_from-clause-has : goal.returns-else-ends_from-clause-has
returns-else-ends_from-clause-has c =
    let found = c.count_up_to-below.ensures in
    block_at_none c.args.blocks.now c.requires c.args.place.now.func c.args.place.now.inst c.count_up_to-below.result found.bound
    found.below found.above _
    (λ some. sym c.ends_from.ensures ∙ c.if-ends_from.false)
