-- The bounds of symbols and sections as lists, in the order in which the code finds them.
use Rattle.std.specs.Prelude.{◌+◌, ◌^◌, ℕ, List, [], ◌∷◌, flat_map, nat_lt, if◌then◌else◌}
use Rattle.elf_image.specs.declared.section.Section.{Section}
use Rattle.elf_image.specs.declared.symbol.Symbol.{Symbol}
use Rattle.elf_image.specs.file.Cuts.{names_function}
use Rattle.elf_image.specs.file.Sections.{holds_code}

abbrev pub bounds : ℕ → ℕ → List ℕ
bounds start size = if nat_lt (start + size) (2 ^ 64) then start ∷ (start + size) ∷ [] else start ∷ []

abbrev pub bounds_of_symbol : Symbol → List ℕ
bounds_of_symbol symbol = if names_function symbol then bounds symbol.value symbol.size else []

abbrev pub bounds_of_section : Section → List ℕ
bounds_of_section section = if holds_code section.flags then bounds section.addr section.size else []

abbrev pub symbol_bounds : List Symbol → List ℕ
symbol_bounds symbols = flat_map bounds_of_symbol symbols

abbrev pub section_bounds : List Section → List ℕ
section_bounds sections = flat_map bounds_of_section sections
