-- Where given tables are in a written file: which sections of the input take one, and what the sections that names mean
-- hold.
use Rattle.std.specs.Prelude.{◌≡◌, ◌≢◌, ℕ, ◌==◌, ◌&&◌, ◌||◌, not, false, true, Bool, List, None, IfSome, IsSomeAnd}
use Rattle.std.specs.Prelude.{IsTrue, All, EachIndex, String, Vec, codes, find, is_some, slice_get, string_bytes}
use Rattle.std.specs.Option.{option_map_or}
use Rattle.std.specs.Str.{bytes_eq}
use Rattle.elf_image.specs.declared.elf.Elf.{Elf}
use Rattle.elf_image.specs.declared.section.Section.{Section}
use Rattle.elf_image.specs.file.Header.{e_shstrndx}
use Rattle.elf_image.specs.file.SectionNames.{is_meant_by, names_debug, section_called}
use Rattle.elf_plan.specs.declared.area.Area.{Area}
use Rattle.elf_plan.specs.Contents.{is_at, is_left_out, place_replaced, section_bytes}
use Rattle.elf_plan.specs.NameTables.{place_of_names, place_of_symbols}
use Rattle.elf_plan.specs.NewSections.{adds_ranges, bytes_called}

-- Which tables have a place.

-- the section at `index` has names or symbols, which are rewritten
abbrev pub is_own_section : Elf → ℕ → Bool
is_own_section elf index =
    (e_shstrndx elf.file.now == index) || (is_at index (place_of_symbols elf) || is_at index (place_of_names elf))

-- A table can take the place of any other section that isn't left out.
abbrev pub takes_table : Elf → ℕ → Section → Bool
takes_table elf index s = not (is_own_section elf index) && not (is_left_out s)

abbrev pub takes_table_at : Elf → ℕ → Bool
takes_table_at elf index = option_map_or (takes_table elf index) (slice_get elf.sections.items index) false

-- The section that a table's name means takes it, if there is one. The unwind table and its index are in the new area.
abbrev pub has_place : Elf → List ℕ → Bool
has_place elf name = option_map_or (takes_table_at elf) (place_replaced elf.sections.items name) true

abbrev pub ArePlaced : {Y Z : Type 0} → Elf → List (String Y × Vec ℕ Z) → Type 0
ArePlaced elf tables = All (λ t. IsTrue (has_place elf (string_bytes t.0))) tables

-- A section that the name of a debug table means, except for the table that is always left out.
abbrev pub is_debug_table : Section → Bool
is_debug_table s =
    names_debug s.name.now && (is_meant_by s.name.now s && not (bytes_eq s.name.now (codes ".debug_macro")))

-- A debug table keeps its contents, or gets those of a given table.
abbrev pub keeps_table : Elf → ℕ → Section → Bool
keeps_table elf index s = not (is_debug_table s) || takes_table elf index s

abbrev pub keeps_table_at : Elf → ℕ → Bool
keeps_table_at elf index = option_map_or (keeps_table elf index) (slice_get elf.sections.items index) true

abbrev pub KeepsTables : Elf → Type 0
KeepsTables elf = EachIndex elf.sections.items (λ i. IsTrue (keeps_table_at elf i))

-- What the sections of a file hold.

-- the section that `name` means has the contents `bytes`
abbrev pub Holds : Elf → List ℕ → List ℕ → Type 0
Holds f name bytes = IsSomeAnd (section_called f.sections.items name) (λ s. section_bytes f.file.now s ≡ bytes)

-- and it is loaded at `address`
pub record IsLoadedAt (address : ℕ) (bytes file : List ℕ) (s : Section) : Type 0 where
  pub addr : s.addr ≡ address
  pub contents : section_bytes file s ≡ bytes

abbrev pub HoldsAt : Elf → List ℕ → ℕ → List ℕ → Type 0
HoldsAt f name address bytes = IsSomeAnd (section_called f.sections.items name) (IsLoadedAt address bytes f.file.now)

-- a table is given for a name
abbrev pub is_given : {Y Z : Type 0} → List (String Y × Vec ℕ Z) → List ℕ → Bool
is_given tables name = is_some (find (λ t. bytes_eq (string_bytes t.0) name) tables)

-- The tables of a written file: those in the new area, and those of debug data. Of the latter those that aren't given
-- stay, and one that the input hasn't isn't written, except for that of ranges.
pub record TablesStand {Y Z : Type 0} (elf new : Elf) (tables : List (String Y × Vec ℕ Z)) (area : Area) : Type 0 where
  pub frames : IfSome area.frames (λ a. HoldsAt new (codes ".eh_frame") a (bytes_called tables (codes ".eh_frame")))
  pub no_frames : area.frames ≡ None → section_called new.sections.items (codes ".eh_frame") ≡ None
  pub index : IfSome area.frames (λ a. IfSome area.index
      (λ b. HoldsAt new (codes ".eh_frame_hdr") b (bytes_called tables (codes ".eh_frame_hdr"))))
  pub debug : (name : List ℕ) → IsTrue (names_debug name) → IsTrue (is_given tables name) →
      IsTrue (is_some (section_called elf.sections.items name)) → Holds new name (bytes_called tables name)
  pub others : (name : List ℕ) → IsTrue (names_debug name) → is_given tables name ≡ false →
      bytes_eq name (codes ".debug_macro") ≡ false →
      IfSome (section_called elf.sections.items name) (λ s. Holds new name (section_bytes elf.file.now s))
  pub ranges : IsTrue (adds_ranges elf.sections.items tables) →
      Holds new (codes ".debug_rnglists") (bytes_called tables (codes ".debug_rnglists"))
  pub absent : (name : List ℕ) → IsTrue (names_debug name) → section_called elf.sections.items name ≡ None →
      (IsTrue (adds_ranges elf.sections.items tables) → name ≢ codes ".debug_rnglists") →
      section_called new.sections.items name ≡ None
