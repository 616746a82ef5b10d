-- The lowest member of each group, for the numbers read so far.
use Rattle.std.proofs.Common.{ℕ, ◌≡◌, ◌<◌, ◌≤◌, List, length}
use Rattle.std.specs.Prelude.{slice_index}

-- For each number its lowest member so far, or the number of all members if it has none; and for each member so far the lowest one with its
-- number.
pub record AreLows (numbers : List ℕ) (i : ℕ) (lows firsts : List ℕ) : Type 0 where
  pub lows_len : length lows ≡ length numbers
  pub firsts_len : length firsts ≡ i
  pub low : (v : ℕ) → v < i → slice_index lows (slice_index numbers v) ≤ v
  pub own : (q : ℕ) → q < length numbers → slice_index lows q < length numbers → slice_index numbers (slice_index lows q) ≡ q
  pub kept : (v : ℕ) → v < i → slice_index firsts v ≡ slice_index lows (slice_index numbers v)
