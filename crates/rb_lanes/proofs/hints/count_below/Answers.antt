use Rattle.std.proofs.Common.{ℕ, arith}
use Rattle.rb_lanes.proofs.Walked.{rest_above, next_below}
use Rattle.rb_lanes.proofs.hints.count_below.Goals as goal

pub returns-then-x-members-clause-above : goal.returns-then-x-members-clause-above
returns-then-x-members-clause-above c =
    rest_above (λ (n : ℕ). n) c.args.members.now c.requires c.loop-count.count c.args.x 0 (omega arith) c.if-x-members.true

pub loop-count-preserved : goal.loop-count-preserved
loop-count-preserved c =
    next_below (λ (n : ℕ). n) c.args.members.now c.requires c.loop-count.count c.args.x 0 (omega arith) c.if-x-members.false
    c.loop-count.invariant
