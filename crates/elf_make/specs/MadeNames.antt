-- The tables of names of a file that is made: that of sections, and a second one if symbols have another. gABI, "String
-- Table".
use Rattle.std.specs.Prelude.{◌≡◌, ◌≢◌, ℕ, ◌==◌, ◌&&◌, if◌then◌else◌, is_none, is_some, List, [], ◌++◌, Option, Some}
use Rattle.std.specs.Prelude.{None, IfSome, String, Vec, option_and_then, option_map, unwrap_or}
use Rattle.rv_code.specs.declared.placed.Func.{Func}
use Rattle.elf_image.specs.declared.elf.Elf.{Elf}
use Rattle.elf_image.specs.file.Header.{e_shstrndx}
use Rattle.elf_plan.specs.declared.area.Area.{Area}
use Rattle.elf_plan.specs.declared.name_tables.OwnSections.{OwnSections}
use Rattle.elf_plan.specs.NameTables.{place_of_names}
use Rattle.elf_plan.specs.NewNames.{cold_names, names_added, table_bytes}
use Rattle.elf_plan.specs.NewSections.{adds_ranges}
use Rattle.elf_make.specs.declared.headers.NewContents.{NewContents}
use Rattle.elf_make.specs.declared.names.NameTable.{NameTable}
use Rattle.elf_make.specs.declared.new_sections.NewNames.{NewNames}

abbrev pub bytes_of : Option NameTable → Option (List ℕ)
bytes_of table = option_map (λ t. t.bytes.items) table

-- the table with the names of symbols
abbrev pub symbol_texts : NewNames → List ℕ
symbol_texts names = unwrap_or (bytes_of names.symbols) names.sections.bytes.items

-- the second table in the input
abbrev pub second_table : Elf → OwnSections → Option (List ℕ)
second_table elf own =
    option_and_then (λ i. if i == own.section_names then None else Some (table_bytes elf i)) own.symbol_names

-- Names of symbols go into the second table, or into the first one without it. If symbols have no place for names, they
-- go into none.
abbrev pub first_added : Option ℕ → Option (List ℕ) → List ℕ → List ℕ
first_added place second names = if is_some place && is_none second then names else []

abbrev pub second_added : Option ℕ → Option (List ℕ) → List ℕ → Option (List ℕ)
second_added place second names = option_map (λ bs. if is_some place then bs ++ names else bs) second

-- Both tables have the names that they must have, after the old ones.
pub record HasNames {Y Z : Type 0} (elf : Elf) (tables : List (String Y × Vec ℕ Z)) (area : Area) (funcs : List Func)
    (cold : List ℕ) (new : NewContents) : Type 0 where
  pub sections : new.section_names.now ≡ table_bytes elf (e_shstrndx elf.file.now)
      ++ names_added elf area (adds_ranges elf.sections.items tables) funcs cold
  pub symbols : IfSome (place_of_names elf) (λ i. i ≢ e_shstrndx elf.file.now →
      new.symbol_names.now ≡ table_bytes elf i ++ cold_names elf.symbols.items funcs cold)
  pub shared : IfSome (place_of_names elf) (λ i. i ≡ e_shstrndx elf.file.now →
      new.symbol_names.now ≡ new.section_names.now)
