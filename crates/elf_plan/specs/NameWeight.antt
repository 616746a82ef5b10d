-- A bound on the bytes of the tables of names that are written.
use Rattle.std.specs.Prelude.{ℕ, ◌+◌, if◌then◌else◌, List, length, sum_by}
use Rattle.std.specs.Option.{option_map_or}
use Rattle.rv_code.specs.declared.placed.Func.{Func}
use Rattle.elf_image.specs.declared.elf.Elf.{Elf}
use Rattle.elf_image.specs.declared.section.Section.{Section}
use Rattle.elf_image.specs.declared.symbol.Symbol.{Symbol}
use Rattle.elf_plan.specs.ColdSymbols.{named_around}
use Rattle.elf_plan.specs.NameTables.{names_of_sections, names_of_symbols, size_of}
use Rattle.file_room.specs.Numbers.{capped}
use Rattle.elf_plan.specs.OldNames.{is_renamed}

-- A bound on the bytes of a changed name: with a prefix or a suffix, and a zero byte.
abbrev pub weight_of : List ℕ → ℕ
weight_of name = 8 + length name

abbrev pub section_weight : Section → ℕ
section_weight s = if is_renamed s then weight_of s.name.now else 0

abbrev pub cold_weight : List Symbol → List Func → ℕ → ℕ
cold_weight symbols funcs a = option_map_or (λ s. weight_of s.name.now) (named_around symbols funcs a) 0

-- The old tables, the new names, and 64 bytes for those of new sections. `cold` has the addresses of the cold parts.
abbrev pub name_weight : Elf → List Func → List ℕ → ℕ
name_weight elf funcs cold =
    capped
    (64 + size_of (names_of_sections elf) + size_of (names_of_symbols elf) + sum_by section_weight elf.sections.items
    + sum_by (cold_weight elf.symbols.items funcs) cold)
