-- The symbol table in the bytes of a file: the first section of its type. The section that its header links to has the
-- names of symbols. gABI, "Symbol Table".
use Rattle.std.specs.Prelude.{◌+◌, ◌*◌, ◌/◌, ℕ, ◌==◌, if◌then◌else◌, nat_lt, List, [], Option, find}
use Rattle.elf_image.specs.declared.section.SectionHeader.{SectionHeader}
use Rattle.elf_image.specs.declared.section.TheConstants.{SHT_SYMTAB}
use Rattle.elf_image.specs.declared.symbol.TheConstants.{SYM_SIZE}
use Rattle.elf_image.specs.file.Header.{number_at, e_shnum}
use Rattle.elf_image.specs.file.Sections.{section_header, section_headers, contents, text_of}

abbrev pub symbol_table : List ℕ → Option SectionHeader
symbol_table file = find (λ section. section.kind == SHT_SYMTAB) (section_headers file)

-- The number of symbols in a table: the complete entries of its section.
abbrev pub symbol_count : SectionHeader → ℕ
symbol_count table = table.size / SYM_SIZE

-- The offset of the entry with an index.
abbrev pub symbol_place : SectionHeader → ℕ → ℕ
symbol_place table index = table.offset + SYM_SIZE * index

-- The names of a table's symbols. If the linked section doesn't exist, the string table is empty.
abbrev pub symbol_names : List ℕ → SectionHeader → List ℕ
symbol_names file table = if nat_lt table.link (e_shnum file) then contents file (section_header file table.link) else
    []

-- The name of the symbol whose entry is at an offset.
abbrev pub symbol_name : List ℕ → SectionHeader → ℕ → List ℕ
symbol_name file table place = text_of (symbol_names file table) (number_at file place 4)
