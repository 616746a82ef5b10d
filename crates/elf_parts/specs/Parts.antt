-- A written file before its tail and its patches: the front of the input, the new area, and the loaded bytes after the
-- executable segment.
use Rattle.std.specs.Prelude.{◌≡◌, ℕ, ◌+◌, ◌-◌, ◌≤◌, List, take, drop, length}
use Rattle.elf_parts.specs.declared.parts.Parts.{Parts}
use Rattle.elf_parts.specs.Patches.{Stands}

-- the parts are apart in the written file, and come from the input
pub record PartsFit (parts : Parts) (input_size area_size : ℕ) : Type 0 where
  pub front : parts.keep ≤ input_size
  pub apart : parts.keep ≤ parts.area_at
  pub behind : parts.area_at + area_size ≤ parts.behind_at
  pub ordered : parts.low ≤ parts.high
  pub from_input : parts.high ≤ input_size

-- how many bytes a file of these parts has
abbrev pub size_of : Parts → ℕ
size_of parts = parts.behind_at + (parts.high - parts.low)

pub record HasParts (parts : Parts) (input area base : List ℕ) : Type 0 where
  pub front : Stands base 0 (take parts.keep input)
  pub middle : Stands base parts.area_at area
  pub behind : Stands base parts.behind_at (take (parts.high - parts.low) (drop parts.low input))
  pub size : length base ≡ size_of parts
