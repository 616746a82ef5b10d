-- Ends of strings in a string table, as the code searches them.
use Rattle.std.specs.Prelude.{◌≡◌, ◌≢◌, ◌≤◌, ◌<◌, ℕ, List, length, slice_index}
use Rattle.elf_image.specs.file.StringTables.{IsUnended}

-- `end` is the index of the first zero byte from an index on, or the end of the table if there is none.
pub record IsTextEnd (table : List ℕ) (index end : ℕ) : Type 0 where
  pub within : end ≤ length table
  pub after : index ≤ length table → index ≤ end
  pub none : (place : ℕ) → index ≤ place → place < end → slice_index table place ≢ 0
  pub ends : end < length table → slice_index table end ≡ 0

-- The index after the last zero byte of a table, or 0 if there is none.
pub record IsLastEnd (table : List ℕ) (end : ℕ) : Type 0 where
  pub unended : (index : ℕ) → end ≤ index → IsUnended table index
  pub ended : (index : ℕ) → IsUnended table index → end ≤ index
