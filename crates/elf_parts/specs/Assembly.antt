-- A written file: the parts, a tail after them, and what is put over their bytes.
use Rattle.std.specs.Prelude.{◌≡◌, ℕ, ◌^◌, ◌<◌, List, Contains, All, ◌++◌, ◌∷◌, length, map}
use Rattle.byteorder.specs.Endian.{little_bytes}
use Rattle.elf_image.specs.declared.segment.Segment.{Segment}
use Rattle.elf_parts.specs.declared.number_at.NumberAt.{NumberAt}
use Rattle.elf_parts.specs.declared.parts.Parts.{Parts}
use Rattle.elf_parts.specs.Numbers.{patch_of}
use Rattle.elf_parts.specs.Parts.{HasParts}
use Rattle.elf_parts.specs.Patches.{Patch, put_all}
use Rattle.elf_parts.specs.Spellings.{SegmentFits, segment_table}

-- the table of program headers, and fields of the file's header
abbrev pub header_patches : ℕ → List ℕ → List NumberAt → List Patch
header_patches table_at table fields = record { offset = table_at; bytes = table } ∷ map patch_of fields

-- It was joined of its parts, got a tail, and had code cells and then headers put over its bytes.
pub record IsAssembled (parts : Parts) (input area tail : List ℕ) (cells : List NumberAt) (table_at : ℕ)
    (table : List ℕ)
    (fields : List NumberAt) (written : List ℕ) : Type 0 where
  pub base : List ℕ
  pub joined : HasParts parts input area base
  pub is : written ≡ put_all (put_all (base ++ tail) (map patch_of cells)) (header_patches table_at table fields)

-- a patch puts a number in `width` bytes
abbrev pub PutsNumber : List Patch → ℕ → ℕ → ℕ → Type 0
PutsNumber patches offset width value = Contains patches (record { offset = offset; bytes = little_bytes width value })

-- The patches put the table of program headers, its place and its length. gABI, "ELF Header".
pub record PutsTable (patches : List Patch) (offset : ℕ) (segments : List Segment) : Type 0 where
  pub place : PutsNumber patches 0x20 8 offset
  pub place_fits : offset < 256 ^ 8
  pub count : PutsNumber patches 0x38 2 (length segments)
  pub count_fits : length segments < 256 ^ 2
  pub fits : All SegmentFits segments
  pub table : Contains patches (record { offset = offset; bytes = segment_table segments })
