-- Bytes in the memory that a file describes, and their offsets in the file.
use Rattle.std.specs.Prelude.{◌⊎◌, ℕ, ◌+◌, ◌-◌, ◌*◌, ◌<◌, ◌≤◌, ◌&&◌, nat_lt, nat_le, min, if◌then◌else◌, Bool, List}
use Rattle.std.specs.Prelude.{Option, Some, None, length, find, option_map, option_and_then}
use Rattle.elf_image.specs.declared.elf.Elf.{Elf}
use Rattle.elf_image.specs.declared.segment.Segment.{Segment}
use Rattle.elf_image.specs.declared.segment.TheConstants.{PHDR_SIZE}
use Rattle.elf_image.specs.file.Header.{header_size}
use Rattle.elf_image.specs.memory.Image.{is_load, image_byte, segment_of}

-- The byte at an address, in the memory of a file.
abbrev pub byte_at : Elf → ℕ → Option ℕ
byte_at elf a = image_byte elf.file.now elf.segments.items a

-- The file offset of the byte at an address of a segment, if the byte comes from the file.
abbrev pub offset_in : ℕ → Segment → Option ℕ
offset_in a p = if nat_lt (a - p.vaddr) p.filesz then Some (p.offset + (a - p.vaddr)) else None

-- The file offset of the byte at an address, if the byte comes from the file.
abbrev pub file_offset : List Segment → ℕ → Option ℕ
file_offset segments a = option_and_then (offset_in a) (segment_of segments a)

-- The offset is in the file header, or in the table of program headers.
abbrev pub IsInHeaders : Elf → ℕ → Type 0
IsInHeaders elf offset =
    (offset < header_size) ⊎ ((elf.phoff ≤ offset) × (offset < elf.phoff + PHDR_SIZE * length elf.segments.items))

-- Ranges.

-- A number of bytes from an offset or an address on.
pub record Range : Type 0 where
  pub start : ℕ
  pub size : ℕ

abbrev pub is_in_range : ℕ → Range → Bool
is_in_range a range = nat_le range.start a && nat_lt a (range.start + range.size)

-- A range of the file is loaded if a single segment loads all its bytes from there.
abbrev pub loads_range : Range → Segment → Bool
loads_range range p =
    is_load p && nat_le p.offset range.start && nat_le (range.start + range.size) (p.offset + min p.filesz p.memsz)

-- The address at which a segment loads the first byte of a range.
abbrev pub address_in : Range → Segment → ℕ
address_in range p = p.vaddr + (range.start - p.offset)

abbrev pub address_of : Elf → Range → Option ℕ
address_of elf range = option_map (address_in range) (find (loads_range range) elf.segments.items)
