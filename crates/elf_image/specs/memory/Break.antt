-- The start of a program's break, and its bound; and the address at which the table of program headers is loaded.
use Rattle.std.specs.Prelude.{ℕ, ◌+◌, ◌-◌, ◌*◌, ◌/◌, ◌^◌, ◌&&◌, ◌==◌, nat_le, if◌then◌else◌, List}
use Rattle.std.specs.Prelude.{min, max, map, filter, fold, find}
use Rattle.std.specs.Option.{option_map_or}
use Rattle.elf_image.specs.declared.segment.Segment.{Segment}
use Rattle.elf_image.specs.declared.segment.TheConstants.{PF_W, PHDR_SIZE}
use Rattle.elf_image.specs.file.Header.{e_phoff, e_phnum, segments_of}
use Rattle.elf_image.specs.memory.LoadedBytes.{Range, loads_range, address_in}
use Rattle.elf_image.specs.memory.Image.{has_memory, end_of, has_flag}

abbrev pub page_size : ℕ
page_size = 4096

abbrev pub rounded_down : ℕ → ℕ → ℕ
rounded_down unit n = n / unit * unit

abbrev pub rounded_up : ℕ → ℕ → ℕ
rounded_up unit n = (n + (unit - 1)) / unit * unit

-- The program break. Only loaded segments with at least one byte of memory matter.

-- The end of the highest writable segment, or 0 if no segment is writable.
abbrev pub writable_end : List Segment → ℕ
writable_end segments = fold max 0 (map end_of (filter (λ p. has_memory p && has_flag PF_W p) segments))

-- The break starts at the end of the highest writable segment, rounded up to a page.
abbrev pub break_start : List Segment → ℕ
break_start segments = rounded_up page_size (writable_end segments)

-- The greatest size of the memory up to the break.
abbrev pub break_room : ℕ
break_room = 64 * 2 ^ 20

-- The start addresses of the pages on which segments above the highest writable one start.
abbrev pub pages_above : List Segment → List ℕ
pages_above segments =
    map (λ p. rounded_down page_size p.vaddr) (filter (λ p. has_memory p && nat_le (writable_end segments) p.vaddr)
    segments)

-- The greatest break: at most `break_room` above its start, and at most the start of the page on which the next higher
-- segment starts, but never below its start. It is 0 if no segment is writable.
abbrev pub break_bound : List Segment → ℕ
break_bound segments =
    if writable_end segments == 0
    then 0
    else max (break_start segments) (fold min (break_start segments + break_room) (pages_above segments))

-- The range of the table of program headers, and the address at which it is loaded: 0 if no single segment loads it.
abbrev pub table_range : List ℕ → Range
table_range file = record { start = e_phoff file; size = PHDR_SIZE * e_phnum file }

abbrev pub table_address : List ℕ → ℕ
table_address file = option_map_or (address_in (table_range file))
    (find (loads_range (table_range file)) (segments_of file)) 0
