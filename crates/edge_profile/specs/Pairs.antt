-- Merging lists of counts.
use Rattle.std.specs.Prelude.{◌≡◌, ◌⊎◌, ◌+◌, ◌*◌, ◌^◌, ◌<◌, ◌≤◌, ◌==◌, ◌&&◌, ◌||◌, ℕ, Bool, true, false, List, All}
use Rattle.std.specs.Prelude.{AllPairs, if◌then◌else◌, ◌-◌, not, nat_lt, length, slice_index_or}
use Rattle.edge_profile.specs.PairCounts.{Counted, count_among, is_pair, total_count, IsCountedBefore}

-- a pair is not after another
abbrev pub IsNotAfter : Counted → Counted → Type 0
IsNotAfter p q = (p.0 < q.0) ⊎ ((p.0 ≡ q.0) × (p.1 ≤ q.1))

-- a pair comes before another, as a test
abbrev pub is_before : Counted → Counted → Bool
is_before p q = nat_lt p.0 q.0 || (p.0 == q.0 && nat_lt p.1 q.1)

-- each pair comes before those after it
abbrev pub IsAscending : List Counted → Type 0
IsAscending pairs = AllPairs (λ p q. is_before p q ≡ true) pairs

-- exactly the first k pairs come before the pair of `from` and `to`
pub record IsCountBelow (pairs : List Counted) (from to k : ℕ) : Type 0 where
  pub within : k ≤ length pairs
  pub below : (j : ℕ) (d : Counted) → j < k → is_before (slice_index_or pairs j d) (from, to, 0) ≡ true
  pub above : (j : ℕ) (d : Counted) → k ≤ j → j < length pairs →
      is_before (slice_index_or pairs j d) (from, to, 0) ≡ false

-- the last of the pairs is the pair of `from` and `to`
abbrev pub is_last_pair : ℕ → ℕ → List Counted → Bool
is_last_pair from to pairs = not (length pairs == 0) && is_pair from to
    (slice_index_or pairs (length pairs - 1) (0, 0, 0))

-- all pairs of `said` with positive counts, in order, each with the sum of its counts
pub record AreMerged (said pairs : List Counted) : Type 0 where
  pub counts : (from to : ℕ) → count_among from to pairs ≡ count_among from to said
  pub bound : total_count pairs ≤ length said * 2 ^ 64
  pub positive : All (λ p. 0 < p.2) pairs
  pub ordered : AllPairs IsCountedBefore pairs

-- the pairs `new` are `old` after the count p was added, whose pair doesn't come before any of `old`
pub record AddsCount (old new : List Counted) (p : Counted) : Type 0 where
  pub counts : (from to : ℕ) → count_among from to new ≡ count_among from to old +
      (if is_pair from to p then p.2 else 0)
  pub total : total_count new ≡ total_count old + p.2
  pub positive : All (λ q. 0 < q.2) old → All (λ q. 0 < q.2) new
  pub ordered : AllPairs IsCountedBefore new
  pub not_after : (q : Counted) → IsNotAfter p q → All (λ r. IsNotAfter r q) old → All (λ r. IsNotAfter r q) new
