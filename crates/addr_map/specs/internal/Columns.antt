-- Ascending columns of numbers, and the levels above them.
use Rattle.std.specs.Prelude.{ℕ, ◌≡◌, ◌+◌, ◌*◌, ◌-◌, ◌/◌, ◌<◌, ◌≤◌, List, [], ◌∷◌, Vec, length, slice_index}
use Rattle.std.specs.declared.alloc.Global.{Global}

-- No member is greater than a later one.
abbrev pub IsAscending : List ℕ → Type 0
IsAscending xs = (i j : ℕ) → i ≤ j → j < length xs → slice_index xs i ≤ slice_index xs j

-- The first of each 64 members of a column.
pub record IsFirsts (firsts column : List ℕ) : Type 0 where
  pub count : length firsts ≡ (length column + 63) / 64
  pub each : (k : ℕ) → k < length firsts → slice_index firsts k ≡ slice_index column (64 * k)

-- Levels above a column, the lowest first. Each level has the first of each 64 members of the column or level below it,
-- and the highest (the column itself, if there are no levels) has at most 64 members.
abbrev pub AreLevels : List ℕ → List (Vec ℕ Global) → Type 0
AreLevels column [] = length column ≤ 64
AreLevels column (firsts ∷ levels) = IsFirsts firsts.items column × AreLevels firsts.items levels

-- Only the first `groups` groups of 64 members start with a member that is at most x, in an ascending column.
pub record IsGroupCount (column : List ℕ) (x groups : ℕ) : Type 0 where
  pub low : 0 < groups → (64 * (groups - 1) < length column) × (slice_index column (64 * (groups - 1)) ≤ x)
  pub high : 64 * groups < length column → x < slice_index column (64 * groups)

-- An ascending column with the levels above it.
pub record IsSearchable (column : List ℕ) (above : List (Vec ℕ Global)) : Type 0 where
  pub ascending : IsAscending column
  pub levels : AreLevels column above
