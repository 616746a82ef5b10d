-- Hidden fields: the header fields that a rewrite changes. The symbol machine reads none of them.
use Rattle.std.specs.Prelude.{ℕ, ◌+◌, ◌*◌, ◌==◌, ◌||◌, nat_le, if◌then◌else◌, Bool, false, List, []}
use Rattle.std.specs.Prelude.{◌∷◌, ◌++◌, flat_map, is_none}
use Rattle.std.specs.Option.{option_map_or}
use Rattle.std.specs.List.{list_any, enumerate_from}
use Rattle.elf_image.specs.declared.elf.Elf.{Elf}
use Rattle.elf_image.specs.declared.segment.Segment.{Segment}
use Rattle.elf_image.specs.declared.segment.TheConstants.{PHDR_SIZE, PT_GNU_EH_FRAME}
use Rattle.elf_image.specs.memory.CodeSegment.{executable_segment, executable_end}
use Rattle.elf_image.specs.memory.LoadedBytes.{Range, is_in_range, address_of, file_offset}

-- Fields of the headers, by their offsets. gABI, "ELF Header" and "Program Header".

abbrev pub e_entry_field : Range
e_entry_field = record { start = 0x18; size = 8 }

abbrev pub e_phoff_field : Range
e_phoff_field = record { start = 0x20; size = 8 }

abbrev pub e_phnum_field : Range
e_phnum_field = record { start = 0x38; size = 2 }

-- e_shoff, e_shnum and e_shstrndx.
abbrev pub section_fields : List Range
section_fields = record { start = 0x28; size = 8 } ∷ record { start = 0x3c; size = 2 }
    ∷ record { start = 0x3e; size = 2 } ∷ []

-- Fields of the program header at an offset: p_offset; p_filesz and p_memsz; and all except p_type, p_flags and
-- p_align.
abbrev pub p_offset_field : ℕ → Range
p_offset_field at = record { start = at + 8; size = 8 }

abbrev pub size_fields : ℕ → Range
size_fields at = record { start = at + 32; size = 16 }

abbrev pub place_fields : ℕ → Range
place_fields at = record { start = at + 8; size = 40 }

-- Hidden fields.

abbrev pub only : Bool → Range → List Range
only test range = if test then range ∷ [] else []

-- The program header with an index is the one of the executable segment.
abbrev pub is_executable_segment : Elf → ℕ → Bool
is_executable_segment elf index = option_map_or (λ e. e.0 == index) (executable_segment elf.segments.items) false

-- The byte at an address belongs to the field e_entry, which is loaded.
abbrev pub is_in_entry_field : Elf → ℕ → Bool
is_in_entry_field file a =
    option_map_or (λ start. is_in_range a (record { start = start; size = 8 })) (address_of file e_entry_field) false

-- Hidden fields of one program header: the sizes of the executable segment; the offset of a segment that is after the
-- executable one in the file; and the offset, addresses and sizes of the unwind table index (LSB, "PT_GNU_EH_FRAME").
abbrev pub hidden_in_segment : Elf → ℕ × Segment → List Range
hidden_in_segment elf indexed =
    let at = elf.phoff + PHDR_SIZE * indexed.0 in
    let p = indexed.1 in
    only (is_executable_segment elf indexed.0) (size_fields at)
    ++ only (nat_le (executable_end elf.segments.items) p.offset) (p_offset_field at)
    ++ only (p.kind == PT_GNU_EH_FRAME) (place_fields at)

-- All hidden fields, as ranges of the file. The field e_entry is hidden only if it isn't completely loaded. If a file
-- is tight (its new code has no room after the executable segment), the table of program headers moves and grows.
abbrev pub hidden_fields : Elf → Bool → List Range
hidden_fields elf tight =
    section_fields
    ++ only (tight || nat_le (executable_end elf.segments.items) elf.phoff) e_phoff_field
    ++ only tight e_phnum_field
    ++ only (is_none (address_of elf e_entry_field)) e_entry_field
    ++ flat_map (hidden_in_segment elf) (enumerate_from 0 elf.segments.items)

-- The byte at an address belongs to a hidden field.
abbrev pub is_hidden_field : Elf → Bool → ℕ → Bool
is_hidden_field elf tight a =
    option_map_or (λ offset. list_any (is_in_range offset) (hidden_fields elf tight))
    (file_offset elf.segments.items a) false
