-- Sets of addresses, as the code keeps them.
use Rattle.std.specs.Prelude.{◌⊎◌, ℕ, ◌-◌, ◌≤◌, Bool, IsTrue, List, Contains, length, slice_index_or, false}

-- The address `a` has no mark.
abbrev pub IsUnmarked : ℕ → List Bool → ℕ → Type 0
IsUnmarked low marks a = low ≤ a → length marks ≤ a - low

-- The address `a` is marked, or is listed and has no mark. The marks are of the addresses from `low` on.
unfoldable pub IsIn : ℕ → List Bool → List ℕ → ℕ → Type 0
IsIn low marks others a =
    ((low ≤ a) × IsTrue (slice_index_or marks (a - low) false)) ⊎ (IsUnmarked low marks a × Contains others a)
