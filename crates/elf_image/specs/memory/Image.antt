-- The memory that a file describes: its bytes, and the permissions of a program. gABI, "Program Header" and "Segment
-- Permissions". Segments of a sound file share no address. If segments share one, the first in the table counts.
use Rattle.std.specs.Prelude.{ℕ, ◌≡◌, ◌+◌, ◌-◌, ◌&&◌, ◌==◌, nat_lt, nat_le, if◌then◌else◌, Bool, false, IsTrue, List}
use Rattle.std.specs.Prelude.{Contains, Option, slice_index, find}
use Rattle.std.specs.Option.{option_map, option_map_or}
use Rattle.elf_image.specs.declared.segment.Segment.{Segment}
use Rattle.elf_image.specs.declared.segment.TheConstants.{PT_LOAD}
use Rattle.elf_image.specs.file.Header.{is_set}

abbrev pub is_load : Segment → Bool
is_load p = p.kind == PT_LOAD

-- The address after the last byte of a segment.
abbrev pub end_of : Segment → ℕ
end_of p = p.vaddr + p.memsz

abbrev pub loads_address : ℕ → Segment → Bool
loads_address a p = is_load p && nat_le p.vaddr a && nat_lt a (end_of p)

-- The segment is loaded and has at least one byte of memory.
abbrev pub has_memory : Segment → Bool
has_memory p = is_load p && nat_lt 0 p.memsz

-- No address is loaded by two different segments.
abbrev pub LoadOnce : List Segment → Type 0
LoadOnce segments = (a : ℕ) (p q : Segment) → Contains segments p → Contains segments q → IsTrue (loads_address a p) →
    IsTrue (loads_address a q) → p ≡ q

-- The segment that loads an address.
abbrev pub segment_of : List Segment → ℕ → Option Segment
segment_of segments a = find (loads_address a) segments

-- The byte of a segment at one of its addresses: the file's byte, or zero after the bytes that come from the file.
abbrev pub byte_of : List ℕ → ℕ → Segment → ℕ
byte_of file a p = if nat_lt (a - p.vaddr) p.filesz then slice_index file (p.offset + (a - p.vaddr)) else 0

-- The byte at an address, if it is loaded.
abbrev pub image_byte : List ℕ → List Segment → ℕ → Option ℕ
image_byte file segments a = option_map (byte_of file a) (segment_of segments a)

-- One of the flags PF_R, PF_W and PF_X is set.
abbrev pub has_flag : ℕ → Segment → Bool
has_flag flag p = is_set flag p.flags

-- The address is loaded by a segment with this flag.
abbrev pub is_loaded_with : ℕ → List Segment → ℕ → Bool
is_loaded_with flag segments a = option_map_or (has_flag flag) (segment_of segments a) false
