-- The tables of names of a written file: those that were there, and after them the names that are added. gABI, "String
-- Table".
use Rattle.std.specs.Prelude.{◌≡◌, ◌≢◌, ℕ, if◌then◌else◌, is_some, Bool, List, Option, [], ◌∷◌, ◌++◌, IfSome, String}
use Rattle.std.specs.Prelude.{Vec, codes, flat_map, slice_get}
use Rattle.std.specs.Option.{option_map_or}
use Rattle.rv_code.specs.declared.placed.Func.{Func}
use Rattle.elf_image.specs.declared.elf.Elf.{Elf}
use Rattle.elf_image.specs.declared.section.Section.{Section}
use Rattle.elf_image.specs.declared.symbol.Symbol.{Symbol}
use Rattle.elf_image.specs.file.Header.{e_shstrndx}
use Rattle.elf_plan.specs.declared.area.Area.{Area}
use Rattle.elf_plan.specs.ColdSymbols.{cold_name, named_around}
use Rattle.elf_plan.specs.Contents.{is_at, section_bytes}
use Rattle.elf_plan.specs.NameTables.{place_of_names}
use Rattle.elf_plan.specs.NewSections.{adds_ranges}
use Rattle.elf_plan.specs.OldNames.{is_renamed, old_name}

-- A name ends with a zero byte.
abbrev pub ended : List ℕ → List ℕ
ended name = name ++ 0 ∷ []

abbrev pub ended_if : Bool → List ℕ → List ℕ
ended_if test name = if test then ended name else []

-- the new name of a section that is renamed
abbrev pub old_ended : Section → List ℕ
old_ended s = ended_if (is_renamed s) (old_name s.name.now)

-- the names of the sections that are added, in the order of those sections
abbrev pub added_names : Area → Bool → List ℕ
added_names area ranges =
    ended (codes ".text")
    ++ (ended_if (is_some area.frames) (codes ".eh_frame")
    ++ (ended_if (is_some area.index) (codes ".eh_frame_hdr") ++ ended_if ranges (codes ".debug_rnglists")))

-- the name of the symbol that is added for a cold part, by the symbol of its function; and the names of all
abbrev pub name_behind : Option Symbol → List ℕ
name_behind symbol = option_map_or (λ s. ended (cold_name s.name.now)) symbol []

abbrev pub cold_names : List Symbol → List Func → List ℕ → List ℕ
cold_names symbols funcs cold = flat_map (λ a. name_behind (named_around symbols funcs a)) cold

-- the bytes of the section at `index`; none if there is no such section
abbrev pub table_bytes : Elf → ℕ → List ℕ
table_bytes elf index = option_map_or (section_bytes elf.file.now) (slice_get elf.sections.items index) []

-- the names that are added to the table of names of sections; it may be that of symbols too
abbrev pub names_added : Elf → Area → Bool → List Func → List ℕ → List ℕ
names_added elf area ranges funcs cold =
    flat_map old_ended elf.sections.items
    ++ (added_names area ranges
    ++ (if is_at (e_shstrndx elf.file.now) (place_of_names elf) then cold_names elf.symbols.items funcs cold else []))

pub record HaveNewNames {Y Z : Type 0} (elf new : Elf) (tables : List (String Y × Vec ℕ Z)) (area : Area)
    (funcs : List Func) (cold : List ℕ) : Type 0 where
  pub sections : table_bytes new (e_shstrndx elf.file.now) ≡ table_bytes elf (e_shstrndx elf.file.now)
      ++ names_added elf area (adds_ranges elf.sections.items tables) funcs cold
  pub symbols : IfSome (place_of_names elf) (λ i. i ≢ e_shstrndx elf.file.now →
      table_bytes new i ≡ table_bytes elf i ++ cold_names elf.symbols.items funcs cold)
