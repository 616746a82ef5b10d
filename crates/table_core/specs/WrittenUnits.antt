-- Units of a debug section as they are written, one after another, each with its length of 32 bits. DWARF 5, section
-- 7.4.
use Rattle.std.specs.Prelude.{◌+◌, ◌-◌, ◌^◌, ◌≡◌, ◌≤◌, ◌<◌, ℕ, List, [], ◌∷◌, ◌++◌, length, Some, false}
use Rattle.byteorder.specs.Endian.{little_number, little_bytes}
use Rattle.table_core.specs.DebugUnits.{Walked}

unfoldable pub units_bytes : List (List ℕ) → List ℕ
units_bytes [] = []
units_bytes (b ∷ bs) = little_bytes 4 (length b) ++ (b ++ units_bytes bs)

-- The units that a walk finds.
unfoldable pub walked_units : ℕ → List (List ℕ) → List Walked
walked_units place [] = []
walked_units place (b ∷ bs) = record { place = place; bytes = Some b; is_other = false }
    ∷ walked_units (place + (length b + 4)) bs

-- The bytes after a length: they begin with a version, and their number fits in 32 bits.
pub record IsUnit (version : ℕ) (b : List ℕ) : Type 0 where
  pub is_version : little_number 2 b ≡ version
  pub some : 2 ≤ length b
  pub small : length b < 2 ^ 32 - 1
