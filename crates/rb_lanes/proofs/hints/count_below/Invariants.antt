use Rattle.std.proofs.Common.{ℕ, ◌<◌, slice_index_or}
use Rattle.rb_lanes.proofs.hints.count_below.Given as goal

abbrev pub invariant-loop-count : goal.invariant-loop-count
invariant-loop-count l = (k : ℕ) (d : ℕ) → k < l.count → slice_index_or l.members k d < l.x
