-- String tables. gABI, "String Table".
use Rattle.std.specs.Prelude.{◌≢◌, ◌≤◌, ◌<◌, ℕ, List, length, slice_index}
use Rattle.elf_image.specs.declared.text.Names.{Names}

-- What contracts see of a table for many lookups: its bytes.
abbrev pub name_bytes : Names → List ℕ
name_bytes names = names.table.now

-- The table has no zero byte from an index on.
abbrev pub IsUnended : List ℕ → ℕ → Type 0
IsUnended table index = (i : ℕ) → index ≤ i → i < length table → slice_index table i ≢ 0
