use Rattle.std.proofs.Common.{arith, refl}
use Rattle.answer_runs.specs.Pieces.{under}
use Rattle.answer_runs.proofs.MergedPieces.{one_range, no_range}
use Rattle.answer_runs.proofs.pieces.pieces_of_one.Goals as goal

pub returns-then-range-low-clause-found : goal.returns-then-range-low-clause-found
unfolding under
returns-then-range-low-clause-found c = λ a. rw c.new-pieces.ensures.items (no_range c.args.range c.args.number a c.if-range-low.true)

pub returns-clause-found : goal.returns-clause-found
returns-clause-found c = λ a.
    rw (c.in_ok-push-2.ensures.items, c.in_ok-push.ensures.items, c.new-pieces.ensures.items)
    (one_range c.args.range c.args.range.low c.args.number a refl (omega (arith, c.if-range-low.false)))
