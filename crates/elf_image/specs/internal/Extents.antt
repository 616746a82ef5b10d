-- Ranges of numbers that overlap. Each range has the place that is reported if it is at fault.
use Rattle.std.specs.Prelude.{◌≡◌, ◌≢◌, ◌≤◌, ◌<◌, ◌⊎◌, ◌+◌, ℕ, List, length, Contains, AllPairs, slice_index_or}
use Rattle.elf_image.specs.declared.extent.Extent.{Extent}

abbrev pub IsInExtent : ℕ → Extent → Type 0
IsInExtent x s = (s.start ≤ x) × (x < s.end)

-- The place of a range that shares a number with a range of another place.
abbrev pub SharesAnother : List Extent → ℕ → Type 0
SharesAnother extents place =
    (s : Extent) × (t : Extent) × Contains extents s × Contains extents t
    × ((s.place ≡ place) × (t.place ≢ place) × ((x : ℕ) × IsInExtent x s × IsInExtent x t))

-- All ranges have different places.
abbrev pub HavePlaces : List Extent → Type 0
HavePlaces extents = AllPairs (λ s t. s.place ≢ t.place) extents

-- Two ranges that aren't empty overlap if each starts before the other ends.
abbrev pub Meet : Extent → Extent → Type 0
Meet s t = (s.start < t.end) × (t.start < s.end)

-- The range with index `k` overlaps another.
abbrev pub MeetsAnother : List Extent → ℕ → Type 0
MeetsAnother extents k =
    (m : ℕ) × (m < length extents) × (m ≢ k) × ((d : Extent) →
    Meet (slice_index_or extents k d) (slice_index_or extents m d))

-- The range with index `k` overlaps the next one.
abbrev pub MeetsNext : List Extent → ℕ → Type 0
MeetsNext extents k =
    (k + 1 < length extents) × ((d : Extent) → (slice_index_or extents (k + 1) d).start <
    (slice_index_or extents k d).end)

-- The greatest end of the ranges before an index, or 0 if there is none.
pub record IsReach (extents : List Extent) (k reach : ℕ) : Type 0 where
  pub above : (m : ℕ) (d : Extent) → m < k → (slice_index_or extents m d).end ≤ reach
  pub reached : (reach ≡ 0) ⊎ ((m : ℕ) × (m < k) × ((d : Extent) → (slice_index_or extents m d).end ≡ reach))

-- A single range contains all numbers from `start` to before `end`.
abbrev pub IsInOneExtent : List Extent → ℕ → ℕ → Type 0
IsInOneExtent extents start end = (s : Extent) × Contains extents s × (s.start ≤ start) × (end ≤ s.end)
