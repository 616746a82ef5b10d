-- The fields of an ELF file's header and program headers in the bytes of the file. gABI, "ELF Header" and "Program
-- Header"; psABI, "File Header". Counts are those in the header. Extended counts in the null section, which the gABI
-- has for files with more headers, aren't supported.
use Rattle.std.specs.Prelude.{ℕ, zero, suc, ◌+◌, ◌*◌, ◌/◌, ◌%◌, ◌==◌, Bool, List, [], ◌∷◌, drop}
use Rattle.byteorder.specs.Endian.{little_number}
use Rattle.elf_image.specs.declared.segment.Segment.{Segment}
use Rattle.elf_image.specs.declared.segment.TheConstants.{PHDR_SIZE}

-- The number in this many bytes at an offset.
abbrev pub number_at : List ℕ → ℕ → ℕ → ℕ
number_at file offset bytes = little_number bytes (drop offset file)

-- The bit `flag`, a power of two, is set in `flags`.
abbrev pub is_set : ℕ → ℕ → Bool
is_set flag flags = flags / flag % 2 == 1

abbrev pub e_type : List ℕ → ℕ
e_type file = number_at file 0x10 2

abbrev pub e_machine : List ℕ → ℕ
e_machine file = number_at file 0x12 2

abbrev pub e_entry : List ℕ → ℕ
e_entry file = number_at file 0x18 8

abbrev pub e_phoff : List ℕ → ℕ
e_phoff file = number_at file 0x20 8

abbrev pub e_shoff : List ℕ → ℕ
e_shoff file = number_at file 0x28 8

abbrev pub e_flags : List ℕ → ℕ
e_flags file = number_at file 0x30 4

abbrev pub e_phentsize : List ℕ → ℕ
e_phentsize file = number_at file 0x36 2

abbrev pub e_phnum : List ℕ → ℕ
e_phnum file = number_at file 0x38 2

abbrev pub e_shentsize : List ℕ → ℕ
e_shentsize file = number_at file 0x3a 2

abbrev pub e_shnum : List ℕ → ℕ
e_shnum file = number_at file 0x3c 2

abbrev pub e_shstrndx : List ℕ → ℕ
e_shstrndx file = number_at file 0x3e 2

-- The size of the file header in bytes.
abbrev pub header_size : ℕ
header_size = 64

-- The program header at an offset.
abbrev pub segment_at : List ℕ → ℕ → Segment
segment_at file offset = record {
  kind = number_at file offset 4;
  flags = number_at file (offset + 4) 4;
  offset = number_at file (offset + 8) 8;
  vaddr = number_at file (offset + 16) 8;
  paddr = number_at file (offset + 24) 8;
  filesz = number_at file (offset + 32) 8;
  memsz = number_at file (offset + 40) 8;
  align = number_at file (offset + 48) 8;
}

-- The offset of the program header with an index, and its fields.
abbrev pub segment_place : List ℕ → ℕ → ℕ
segment_place file index = e_phoff file + PHDR_SIZE * index

abbrev pub segment : List ℕ → ℕ → Segment
segment file index = segment_at file (segment_place file index)

-- The n program headers from an offset on.
unfoldable pub segments_from : List ℕ → ℕ → ℕ → List Segment
segments_from file offset zero = []
segments_from file offset (suc n) = segment_at file offset ∷ segments_from file (offset + PHDR_SIZE) n

-- The program headers, in the order of their table.
abbrev pub segments_of : List ℕ → List Segment
segments_of file = segments_from file (e_phoff file) (e_phnum file)
