-- What a written file is made of.
use Rattle.std.specs.Prelude.{◌≡◌, ℕ, ◌+◌, ◌≤◌, ◌||◌, if◌then◌else◌, Bool, true, false, List, []}
use Rattle.std.specs.Prelude.{◌∷◌, Option, Some, All, length}
use Rattle.elf_image.specs.declared.elf.Elf.{Elf}
use Rattle.elf_image.specs.declared.segment.Segment.{Segment}
use Rattle.elf_image.specs.file.Header.{e_shstrndx}
use Rattle.elf_image.specs.memory.Break.{rounded_up}
use Rattle.elf_image.specs.memory.CodeSegment.{executable_segment}
use Rattle.addr_map.specs.Spans.{moved}
use Rattle.elf_parts.specs.declared.number_at.NumberAt.{NumberAt}
use Rattle.elf_parts.specs.Assembly.{IsAssembled}
use Rattle.elf_parts.specs.Numbers.{CanPut}
use Rattle.elf_parts.specs.Parts.{PartsFit, size_of}
use Rattle.elf_parts.specs.Patches.{Stands}
use Rattle.elf_parts.specs.Spellings.{SegmentFits, segment_table}
use Rattle.elf_plan.specs.declared.area.Area.{Area}
use Rattle.elf_plan.specs.declared.area.Shift.{Shift}
use Rattle.elf_make.specs.declared.header_fields.HeaderFields.{HeaderFields}
use Rattle.elf_make.specs.declared.layout.Layout.{Layout}
use Rattle.elf_plan.specs.Area.{area_of, shift_of, moved_by}
use Rattle.elf_make.specs.CellNumbers.{AreCellNumbers}
use Rattle.elf_plan.specs.FileLayout.{is_kept_table, table_of}
use Rattle.elf_plan.specs.NewSegments.{AreNewHeaders}
use Rattle.elf_make.specs.PartPlaces.{IsAbove, IsBehind}
use Rattle.elf_make.specs.Source.{Source}

-- The places of the loaded bytes of the input and of the new area, for the new code and tables of the sizes `frames`
-- and `index`.
pub record IsLaidOut (elf : Elf) (tight : Bool) (code : List ℕ) (frames index : Option ℕ)
    (layout : Layout) : Type 0 where
  pub executable : Segment
  pub found : executable_segment elf.segments.items ≡ Some (layout.code, executable)
  pub area : layout.area ≡ area_of elf.segments.items tight (length code) frames index
  pub shift : layout.shift ≡ shift_of elf.segments.items layout.area
  pub starts_with : Stands layout.bytes.items 0 code
  pub can : PartsFit layout.parts (length elf.file.now) (length layout.bytes.items)
  pub header : 64 ≤ layout.parts.keep
  pub above : layout.area.tight ≡ true → IsAbove elf.segments.items layout.area layout.parts
  pub behind : layout.area.tight ≡ false → IsBehind elf.segments.items layout.area layout.shift layout.parts

-- Where the table of program headers is in the written file, whose tail begins at `base`.
pub record IsTablePlace (elf : Elf) (area : Area) (shift : Shift) (base at : ℕ) : Type 0 where
  pub header : 64 ≤ at
  pub above : area.tight ≡ true → at ≡ area.offset
  pub kept : area.tight ≡ false → is_kept_table elf shift ≡ true → at ≡ moved_by shift.from shift.by elf.phoff
  pub added : area.tight ≡ false → is_kept_table elf shift ≡ false → base ≤ at
  pub rounded : area.tight ≡ false → is_kept_table elf shift ≡ false → at ≡ rounded_up 8 base

-- where the contents of sections begin: with the tail, or after the table, if that is added
abbrev pub start_after : Elf → Area → Shift → ℕ → ℕ
start_after elf area shift base =
    if area.tight || is_kept_table elf shift then base else rounded_up 8 base + (table_of elf).size

-- a number of `width` bytes at `offset`
abbrev pub number : ℕ → ℕ → ℕ → NumberAt
number offset width value = record { offset = offset; width = width; value = value }

-- The fields of the file's header, as numbers at their places. gABI, "ELF Header".
abbrev pub header_numbers : HeaderFields → List NumberAt
header_numbers fields =
    number 0x18 8 fields.entry ∷ number 0x20 8 fields.program_headers_at ∷ number 0x28 8 fields.section_headers_at
    ∷ number 0x38 2 fields.segments ∷ number 0x3c 2 fields.sections ∷ number 0x3e 2 fields.names ∷ []

-- The parts and a tail, with code cells, the table of program headers and fields of the file's header put over their
-- bytes. All are within the file.
pub record IsPut (layout : Layout) (input tail : List ℕ) (cells : List NumberAt) (segments : List Segment)
    (fields : List NumberAt) (program_headers_at : ℕ) (w : List ℕ) : Type 0 where
  pub fit : All SegmentFits segments
  pub cells_fit : All (CanPut (size_of layout.parts + length tail)) cells
  pub fields_fit : All (CanPut (size_of layout.parts + length tail)) fields
  pub table_fits : program_headers_at + length (segment_table segments) ≤ size_of layout.parts + length tail
  pub assembled : IsAssembled layout.parts input layout.bytes.items tail cells program_headers_at
      (segment_table segments) fields w

-- The whole file, made of its input.
pub record IsMade (s : Source) (tight : Bool) (w : List ℕ) : Type 0 where
  pub layout : Layout
  pub laid_out : IsLaidOut s.elf tight s.code s.frames s.index layout
  -- the code cells
  pub cells : List NumberAt
  pub are_cells : AreCellNumbers s.elf layout.shift s.cells cells
  -- the program headers, and the offset of their table
  pub segments : List Segment
  pub are_headers : AreNewHeaders layout.shift.from layout.shift.by layout.area layout.code s.elf.segments.items
      segments
  pub program_headers_at : ℕ
  pub table_place : IsTablePlace s.elf layout.area layout.shift (size_of layout.parts) program_headers_at
  -- the fields of the file's header
  pub fields : HeaderFields
  pub entry : moved s.spans s.elf.entry ≡ Some fields.entry
  pub place : fields.program_headers_at ≡ program_headers_at
  pub count : fields.segments ≡ length segments
  pub names : fields.names ≡ e_shstrndx s.elf.file.now
  -- they are put over the parts
  pub tail : List ℕ
  pub put : IsPut layout s.elf.file.now tail cells segments (header_numbers fields) program_headers_at w
