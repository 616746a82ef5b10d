use Rattle.std.proofs.Common.{◌≡◌, count_by, nat_lt, take}
use Rattle.bolt_core.proofs.counting.count_hot.Given as goal

-- the hot ones among the first weights
abbrev pub invariant-loop-weight : goal.invariant-loop-weight
invariant-loop-weight l = l.count ≡ count_by (nat_lt 0) (take l.weight-index l.weights)
