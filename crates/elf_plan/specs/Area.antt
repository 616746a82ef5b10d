-- The new area: the new code, followed by the loaded tables.
use Rattle.std.specs.Prelude.{ℕ, ◌+◌, ◌-◌, ◌&&◌, nat_le, nat_lt, max, min, if◌then◌else◌, Bool, List, Option, Some}
use Rattle.std.specs.Prelude.{None, fold, filter, map}
use Rattle.std.specs.Option.{option_map_or}
use Rattle.elf_image.specs.declared.segment.Segment.{Segment}
use Rattle.elf_image.specs.memory.CodeSegment.{executable_segment}
use Rattle.elf_image.specs.memory.Image.{is_load}
use Rattle.elf_image.specs.memory.Break.{rounded_up}
use Rattle.elf_plan.specs.declared.area.Area.{Area}
use Rattle.elf_plan.specs.declared.area.Shift.{Shift}
use Rattle.file_room.specs.Room.{area_start_of, greatest_align, new_segment_start}

-- The bytes that the file loads.

-- A segment that loads bytes of the file, and the offset at which these end.
abbrev pub has_file_bytes : Segment → Bool
has_file_bytes p = is_load p && nat_lt 0 p.filesz

abbrev pub file_end_of : Segment → ℕ
file_end_of p = p.offset + p.filesz

-- The greatest offset at which such bytes end.
abbrev pub loads_end : List Segment → ℕ
loads_end segments = fold max 0 (map file_end_of (filter has_file_bytes segments))

-- The lowest offset at which such bytes start, among segments that start at or after `offset` in the file.
abbrev pub lower_start : Option ℕ → Segment → Option ℕ
lower_start None p = Some p.offset
lower_start (Some low) p = Some (min p.offset low)

abbrev pub lowest_behind : ℕ → List Segment → Option ℕ
lowest_behind offset segments = fold lower_start None (filter (λ p. has_file_bytes p && nat_le offset p.offset)
    segments)

-- The executable segment, or a header of zeros if there is none.
abbrev pub no_segment : Segment
no_segment = record { kind = 0; flags = 0; offset = 0; vaddr = 0; paddr = 0; filesz = 0; memsz = 0; align = 0 }

abbrev pub code_segment : List Segment → Segment
code_segment segments = option_map_or (λ e. e.1) (executable_segment segments) no_segment

abbrev pub code_file_end : List Segment → ℕ
code_file_end segments = file_end_of (code_segment segments)

-- The segment that contains the area: the executable one, or a new one.

abbrev pub segment_address : List Segment → Bool → ℕ
segment_address segments tight = if tight then new_segment_start segments else (code_segment segments).vaddr

-- The offset of that segment in the written file. A new one is after all bytes that the file loads.
abbrev pub segment_offset : List Segment → Bool → ℕ
segment_offset segments tight =
    if tight
    then rounded_up (greatest_align segments) (loads_end segments)
    else (code_segment segments).offset

-- The area.

-- The start and the end of a table after `end`. If the size is None, there is no table.
abbrev pub table_start : ℕ → ℕ → Option ℕ → Option ℕ
table_start align end None = None
table_start align end (Some size) = Some (rounded_up align end)

abbrev pub table_end : ℕ → ℕ → Option ℕ → ℕ
table_end align end None = end
table_end align end (Some size) = rounded_up align end + size

-- The area, from the sizes of its code, of the unwind table and of its index.
abbrev pub area_of : List Segment → Bool → ℕ → Option ℕ → Option ℕ → Area
area_of segments tight code frames index =
    let code_end = area_start_of segments tight + code in
    let frames_end = table_end 8 code_end frames in
    record {
      tight = tight;
      address = segment_address segments tight;
      offset = segment_offset segments tight;
      start = area_start_of segments tight;
      code_end = code_end;
      frames = table_start 8 code_end frames;
      index = table_start 4 frames_end index;
      end = table_end 4 frames_end index;
    }

-- The offset in the written file of the address `a` of the area.
abbrev pub area_offset : Area → ℕ → ℕ
area_offset area a = area.offset + (a - area.address)

-- Positions of the input's loaded bytes.

-- The bytes at and after the executable segment's end move by the least multiple of the greatest alignment that makes
-- room for the area. None moves if the area has its own segment.
abbrev pub step_of : List Segment → Area → ℕ
step_of segments area =
    if area.tight
    then 0
    else option_map_or (λ low. rounded_up (greatest_align segments) (area_offset area area.end - low))
    (lowest_behind (code_file_end segments) segments) 0

abbrev pub shift_of : List Segment → Area → Shift
shift_of segments area = record { from = code_file_end segments; by = step_of segments area }

abbrev pub moved_by : ℕ → ℕ → ℕ → ℕ
moved_by file_end step o = if nat_le file_end o then o + step else o
