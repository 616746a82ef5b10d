-- The executable segment. A file that was rewritten can have two, of which this is the lower one.
use Rattle.std.specs.Prelude.{ℕ, ◌+◌, ◌&&◌, nat_lt, Bool, not, List, Option, find}
use Rattle.std.specs.Option.{option_map_or}
use Rattle.std.specs.List.{list_any, enumerate_from}
use Rattle.elf_image.specs.declared.segment.Segment.{Segment}
use Rattle.elf_image.specs.faults.SegmentLayout.{is_code_segment}

-- No executable segment is at a lower address.
abbrev pub is_lowest : List Segment → Segment → Bool
is_lowest segments p = not (list_any (λ q. is_code_segment q && nat_lt q.vaddr p.vaddr) segments)

-- The index and the header of the executable segment. If several have the lowest address, the first in the table.
abbrev pub executable_segment : List Segment → Option (ℕ × Segment)
executable_segment segments = find (λ e. is_code_segment e.1 && is_lowest segments e.1) (enumerate_from 0 segments)

-- The file offset at which the bytes of the executable segment end.
abbrev pub executable_end : List Segment → ℕ
executable_end segments = option_map_or (λ e. e.1.offset + e.1.filesz) (executable_segment segments) 0
