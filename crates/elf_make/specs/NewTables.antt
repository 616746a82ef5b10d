-- The sections, the program headers, the names, the symbols and the layout of a written file, as they are read of it.
use Rattle.std.specs.Prelude.{ℕ, List, Bool, String, Vec}
use Rattle.addr_map.specs.declared.span.Span.{Span}
use Rattle.elf_image.specs.declared.elf.Elf.{Elf}
use Rattle.elf_image.specs.file.ParsedFile.{IsElfOf}
use Rattle.rv_code.specs.declared.placed.Func.{Func}
use Rattle.elf_plan.specs.Area.{shift_of}
use Rattle.elf_plan.specs.FileLayout.{HasFileLayout}
use Rattle.elf_plan.specs.HeaderPlaces.{HasNewHeaders}
pub use Rattle.elf_plan.specs.NewAreas.{area_for}
use Rattle.elf_plan.specs.NewNames.{HaveNewNames}
use Rattle.elf_plan.specs.NewSections.{AreNewSections}
use Rattle.elf_make.specs.NewSymbols.{HaveNewSymbols}

-- What is read of the file w has the sections, program headers, names, symbols and layout that follow from the input,
-- the tables that are given, the new code, the functions, their cold parts and the map.
pub record HasNewTables {Y Z : Type 0} (elf : Elf) (tables : List (String Y × Vec ℕ Z)) (code : List ℕ)
    (funcs : List Func) (cold : List ℕ) (spans : List Span) (tight : Bool) (w : List ℕ) : Type 0 where
  pub new : Elf
  pub read : IsElfOf w new
  pub sections : AreNewSections elf new tables (area_for elf tables code tight)
      (shift_of elf.segments.items (area_for elf tables code tight)) code
  pub headers : HasNewHeaders elf new tables (area_for elf tables code tight)
      (shift_of elf.segments.items (area_for elf tables code tight))
  pub names : HaveNewNames elf new tables (area_for elf tables code tight) funcs cold
  pub symbols : HaveNewSymbols elf new funcs spans cold
  pub layout : HasFileLayout elf new tables (area_for elf tables code tight)
      (shift_of elf.segments.items (area_for elf tables code tight))
