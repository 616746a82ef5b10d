-- What a file is written of, and the place of its new code.
use Rattle.std.specs.Prelude.{ℕ, ◌+◌, ◌-◌, ◌<◌, ◌≤◌, ◌||◌, if◌then◌else◌, Bool, List, Option, String, Vec, codes}
use Rattle.std.specs.Prelude.{length}
use Rattle.std.specs.List.{list_any}
use Rattle.rv_code.specs.declared.layout.Emitted.{Emitted}
use Rattle.elf_image.specs.declared.elf.Elf.{Elf}
use Rattle.elf_image.specs.memory.LoadedBytes.{Range, is_in_range}
use Rattle.addr_map.specs.declared.span.Span.{Span}
use Rattle.addr_map.specs.Spans.{IsStretch}
use Rattle.elf_image.specs.memory.HiddenFields.{is_hidden_field, is_in_entry_field}
use Rattle.elf_plan.specs.declared.area.Area.{Area}
use Rattle.elf_plan.specs.Area.{area_of}
use Rattle.file_room.specs.Room.{area_start_of, room, room_above}
use Rattle.elf_plan.specs.TableSizes.{table_size}

pub record Source : Type 0 where
  pub elf : Elf
  -- the bytes of the new code
  pub code : List ℕ
  -- of each code cell its address, its width and its new content
  pub cells : List (ℕ × ℕ × ℕ)
  pub spans : List Span
  -- the sizes of the unwind table and of its index, if they are there
  pub frames : Option ℕ
  pub index : Option ℕ

abbrev pub source_of : {Y Z : Type 0} → Elf → Emitted → List Span → List (String Y × Vec ℕ Z) → Source
source_of elf emitted spans tables = record {
  elf = elf;
  code = emitted.code.items;
  cells = emitted.cells.items;
  spans = spans;
  frames = table_size tables (codes ".eh_frame");
  index = table_size tables (codes ".eh_frame_hdr");
}

abbrev pub source_area : Source → Bool → Area
source_area s tight = area_of s.elf.segments.items tight (length s.code) s.frames s.index

-- The map puts the new code after the executable segment, or in a segment of its own if tight, and all of the new area
-- has room there.
pub record HasPlace (s : Source) (tight : Bool) : Type 0 where
  pub some : 0 < length s.code
  pub stretch : IsStretch s.spans (area_start_of s.elf.segments.items tight)
      (area_start_of s.elf.segments.items tight + length s.code)
  pub fits : (source_area s tight).end - (source_area s tight).start ≤
      (if tight then room_above s.elf.segments.items else room s.elf.segments.items)

-- the bytes of a code cell in memory
abbrev pub cell_range : ℕ × ℕ × ℕ → Range
cell_range cell = record { start = cell.0; size = cell.1 }

-- The bytes in memory that may differ: those of code cells, of the field of the entry point, and of hidden fields.
abbrev pub is_changed : Source → Bool → ℕ → Bool
is_changed s tight a =
    list_any (λ cell. is_in_range a (cell_range cell)) s.cells || is_in_entry_field s.elf a
    || is_hidden_field s.elf tight a
