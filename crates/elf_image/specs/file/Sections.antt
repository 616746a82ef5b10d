-- Section headers in the bytes of a file. gABI, "Section Header" and "Section Attribute Flags".
use Rattle.std.specs.Prelude.{ℕ, ◌+◌, ◌*◌, ◌==◌, if◌then◌else◌, Bool, List, [], map, take, drop, take_while, not}
use Rattle.std.specs.List.{range_with_len}
use Rattle.elf_image.specs.declared.section.SectionHeader.{SectionHeader}
use Rattle.elf_image.specs.declared.section.TheConstants.{SHT_NOBITS, SHF_EXECINSTR, SHDR_SIZE}
use Rattle.elf_image.specs.file.Header.{number_at, is_set, e_shoff, e_shnum, e_shstrndx}

-- The section header at an offset.
abbrev pub section_header_at : List ℕ → ℕ → SectionHeader
section_header_at file offset = record {
  name = number_at file offset 4;
  kind = number_at file (offset + 4) 4;
  flags = number_at file (offset + 8) 8;
  addr = number_at file (offset + 16) 8;
  offset = number_at file (offset + 24) 8;
  size = number_at file (offset + 32) 8;
  link = number_at file (offset + 40) 4;
  info = number_at file (offset + 44) 4;
  align = number_at file (offset + 48) 8;
  entsize = number_at file (offset + 56) 8;
}

-- The offset of the section header with an index, and its fields.
abbrev pub section_place : List ℕ → ℕ → ℕ
section_place file index = e_shoff file + SHDR_SIZE * index

abbrev pub section_header : List ℕ → ℕ → SectionHeader
section_header file index = section_header_at file (section_place file index)

-- The section headers, in the order of their table.
abbrev pub section_headers : List ℕ → List SectionHeader
section_headers file = map (section_header file) (range_with_len 0 (e_shnum file))

-- A section with these flags contains instructions.
abbrev pub holds_code : ℕ → Bool
holds_code flags = is_set SHF_EXECINSTR flags

-- The bytes of a section.
abbrev pub contents : List ℕ → SectionHeader → List ℕ
contents file section = if section.kind == SHT_NOBITS then [] else take section.size (drop section.offset file)

-- The string at an index of a string table, without the final zero byte; gABI, "String Table".
abbrev pub text_of : List ℕ → ℕ → List ℕ
text_of table index = take_while (λ b. not (b == 0)) (drop index table)

-- The string table of section names, and the name of a section.
abbrev pub section_names : List ℕ → List ℕ
section_names file = contents file (section_header file (e_shstrndx file))

abbrev pub section_name : List ℕ → ℕ → List ℕ
section_name file index = text_of (section_names file) (section_header file index).name
