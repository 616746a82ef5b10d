-- Looking up addresses among the starts of blocks.
use Rattle.std.specs.Prelude.{◌≡◌, ℕ, ◌<◌, ◌≤◌, ◌-◌, List, length, slice_index}

-- The m-th of ascending starts is the last one at or below an address.
pub record IsHolder (starts : List ℕ) (a m : ℕ) : Type 0 where
  pub within : m < length starts
  pub above : slice_index starts m ≤ a
  pub below : (k : ℕ) → m < k → k < length starts → a < slice_index starts k

-- The result of looking up an address: the place of the start that holds it, and the offset from this start.
abbrev pub Finds : List ℕ → List ℕ → ℕ → ℕ → ℕ → Type 0
Finds starts places a to offset =
    (m : ℕ) → IsHolder starts a m → (to ≡ slice_index places m) × (offset ≡ a - slice_index starts m)

-- the inverse of an order: the index in it of each number
abbrev pub ArePlaces : List ℕ → List ℕ → Type 0
ArePlaces order places = (k : ℕ) → k < length order → slice_index places (slice_index order k) ≡ k
