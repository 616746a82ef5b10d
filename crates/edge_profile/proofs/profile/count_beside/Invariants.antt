use Rattle.std.proofs.Common.{◌≡◌, ◌<◌, ℕ, true, slice_index_or}
use Rattle.edge_profile.specs.PairCounts.{Counted}
use Rattle.edge_profile.specs.Pairs.{is_before}
use Rattle.edge_profile.proofs.profile.count_beside.Given as goal

abbrev pub invariant-loop-k : goal.invariant-loop-k
invariant-loop-k l = (j : ℕ) (d : Counted) → j < l.k → is_before (slice_index_or l.pairs j d) (l.from, l.to, 0) ≡ true
