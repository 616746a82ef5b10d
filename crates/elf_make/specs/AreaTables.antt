-- The bytes of the new area in a written file: the new code, and the tables that are loaded after it.
use Rattle.std.specs.Prelude.{ℕ, ◌-◌, List, Bool, IfSome, String, Vec, codes}
use Rattle.rv_code.specs.declared.placed.Func.{Func}
use Rattle.elf_parts.specs.Patches.{Stands}
use Rattle.elf_make.specs.declared.layout.Layout.{Layout}
use Rattle.elf_make.specs.FileParts.{IsMade}
use Rattle.elf_make.specs.MadeNames.{HasNames}
use Rattle.elf_make.specs.MadeSections.{HasSections}
use Rattle.elf_plan.specs.NewSections.{bytes_called}
use Rattle.elf_make.specs.Source.{Source}
use Rattle.elf_make.specs.SymbolTable.{HasSymbols}

-- The tables are among the bytes of an area.
pub record HoldsTables {Y Z : Type 0} (tables : List (String Y × Vec ℕ Z)) (layout : Layout) : Type 0 where
  pub frames : IfSome layout.area.frames
      (λ a. Stands layout.bytes.items (a - layout.area.start) (bytes_called tables (codes ".eh_frame")))
  pub index : IfSome layout.area.index
      (λ a. Stands layout.bytes.items (a - layout.area.start) (bytes_called tables (codes ".eh_frame_hdr")))

-- A file that was made, with these tables, and with names and symbols of these cold parts.
pub record IsMadeWith {Y Z : Type 0} (s : Source) (tables : List (String Y × Vec ℕ Z)) (funcs : List Func)
    (cold : List ℕ) (tight : Bool) (w : List ℕ) : Type 0 where
  pub made : IsMade s tight w
  pub has_tables : HoldsTables tables made.layout
  pub sections : HasSections s tables tight w made
  pub names : HasNames s.elf tables made.layout.area funcs cold sections.put.new
  pub symbols : HasSymbols s.elf funcs s.spans cold sections.contents sections.put.new sections.put.set
