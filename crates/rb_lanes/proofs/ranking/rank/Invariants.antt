use Rattle.std.proofs.Common.{◌+◌, ◌≡◌, length}
use Rattle.rb_lanes.specs.Ranks.{rank}
use Rattle.rb_lanes.proofs.ranking.rank.Given as goal

-- The count so far plus the rank in the rest is the rank in the list.
abbrev pub invariant-loop-rest : goal.invariant-loop-rest
invariant-loop-rest l = l.count + rank l.rest l.x ≡ rank l.xs l.x

abbrev pub decreases-loop-rest : goal.decreases-loop-rest
decreases-loop-rest l = length l.rest
