-- The start of the new area and the room for it: after the executable segment, or in a new segment above all others.
-- gABI, "Program Header".
use Rattle.std.specs.Prelude.{ℕ, ◌+◌, ◌-◌, ◌*◌, ◌==◌, ◌&&◌, nat_le, nat_lt, if◌then◌else◌, Bool, List, length, map}
use Rattle.std.specs.Prelude.{filter, fold, max, min}
use Rattle.std.specs.Option.{option_map_or}
use Rattle.elf_image.specs.declared.segment.Segment.{Segment}
use Rattle.elf_image.specs.declared.segment.TheConstants.{PHDR_SIZE}
use Rattle.elf_image.specs.file.Header.{header_size}
use Rattle.elf_image.specs.memory.CodeSegment.{executable_segment, executable_end}
use Rattle.elf_image.specs.memory.Image.{is_load, end_of}
use Rattle.elf_image.specs.memory.Break.{page_size, rounded_down, rounded_up, writable_end, break_start, break_room}
use Rattle.rv_code.specs.layout.FunctionLists.{address_end}

abbrev pub area_align : ℕ
area_align = 16

-- After the executable segment.

-- The end address of the executable segment.
abbrev pub code_end : List Segment → ℕ
code_end segments = option_map_or (λ e. end_of e.1) (executable_segment segments) 0

abbrev pub area_start : List Segment → ℕ
area_start segments = rounded_up area_align (code_end segments)

-- The start addresses of the pages on which loaded segments at or above `end` start, including segments with no memory.
abbrev pub pages_from : ℕ → List Segment → List ℕ
pages_from end segments = map (λ p. rounded_down page_size p.vaddr)
    (filter (λ p. is_load p && nat_le end p.vaddr) segments)

-- The area ends at or below the lowest of these pages, and at or below the end of all addresses.
abbrev pub limit_above : ℕ → List Segment → ℕ
limit_above end segments = fold min address_end (pages_from end segments)

abbrev pub area_limit : List Segment → ℕ
area_limit segments = limit_above (code_end segments) segments

-- The number of bytes available for the area. It is 0 if the executable segment ends within the file header, since the
-- area would overwrite the header.
abbrev pub room : List Segment → ℕ
room segments =
    if nat_lt (executable_end segments) header_size then 0 else area_limit segments - area_start segments

-- In a new segment.

-- The greatest alignment of the loaded segments, at least the page size.
abbrev pub greatest_align : List Segment → ℕ
greatest_align segments = fold max page_size (map (λ p. p.align) (filter is_load segments))

abbrev pub highest_end : List Segment → ℕ
highest_end segments = fold max 0 (map end_of (filter is_load segments))

-- The address that the program break never exceeds, or 0 if the program has no break.
abbrev pub break_end : List Segment → ℕ
break_end segments = if writable_end segments == 0 then 0 else break_start segments + break_room

-- The new segment is above all others and above the break.
abbrev pub new_segment_start : List Segment → ℕ
new_segment_start segments = rounded_up (greatest_align segments) (max (highest_end segments) (break_end segments))

-- The new segment starts with the table of program headers, which has one more entry. The area follows the table.
abbrev pub area_above : List Segment → ℕ
area_above segments = rounded_up area_align (new_segment_start segments + PHDR_SIZE * (length segments + 1))

abbrev pub room_above : List Segment → ℕ
room_above segments = address_end - area_above segments

-- The choice between the two.

-- A file is tight if the area needs more bytes than are available after the executable segment.
abbrev pub is_tight : List Segment → ℕ → Bool
is_tight segments need = nat_lt (room segments) need

-- The start address of the area.
abbrev pub area_start_of : List Segment → Bool → ℕ
area_start_of segments tight = if tight then area_above segments else area_start segments
