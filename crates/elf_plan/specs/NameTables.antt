-- The tables of names of a file, which are rewritten. gABI, "String Table".
use Rattle.std.specs.Prelude.{ℕ, ◌==◌, nat_lt, if◌then◌else◌, List, Option, Some, None, length, find, position}
use Rattle.std.specs.Prelude.{slice_get, option_and_then}
use Rattle.std.specs.Option.{option_map_or}
use Rattle.elf_image.specs.declared.elf.Elf.{Elf}
use Rattle.elf_image.specs.declared.section.Section.{Section}
use Rattle.elf_image.specs.declared.section.TheConstants.{SHT_SYMTAB}
use Rattle.elf_image.specs.file.Header.{e_shstrndx}

-- The section with the section names.
abbrev pub names_of_sections : Elf → Option Section
names_of_sections elf = slice_get elf.sections.items (e_shstrndx elf.file.now)

-- The section with the symbols, and its index.
abbrev pub symbols_section : Elf → Option Section
symbols_section elf = find (λ s. s.kind == SHT_SYMTAB) elf.sections.items

abbrev pub place_of_symbols : Elf → Option ℕ
place_of_symbols elf = position (λ s. s.kind == SHT_SYMTAB) elf.sections.items

-- The section with the symbol names, if there are symbols.
abbrev pub names_of_symbols : Elf → Option Section
names_of_symbols elf =
    if length elf.symbols.items == 0
    then None
    else option_map_or (λ s. slice_get elf.sections.items s.link) (symbols_section elf) None

-- The index of that section, if it exists.
abbrev pub among : List Section → ℕ → Option ℕ
among sections index = if nat_lt index (length sections) then Some index else None

abbrev pub place_of_names : Elf → Option ℕ
place_of_names elf =
    if length elf.symbols.items == 0 then None
    else option_and_then (λ s. among elf.sections.items s.link) (symbols_section elf)

abbrev pub size_of : Option Section → ℕ
size_of section = option_map_or (λ s. s.size) section 0
