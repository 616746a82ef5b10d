-- Properties of programs.
use Rattle.std.proofs.Common.{ℕ, List, inr}
use Rattle.rv_code.specs.declared.placed.Func.{Func}
use Rattle.rv_code.specs.layout.FunctionLists.{AreLaidOut}
use Rattle.elf_image.specs.declared.elf.Elf.{Elf}
use Rattle.elf_code.specs.Functions.{AreFunctions}
use Rattle.cfg_build.proofs.layout.AcceptedCode.{AreLaidOut-functions}
use Rattle.cfi_rows.specs.Frames.{tabled}
use Rattle.program.specs.Program.{IsFaultless}

module _ (file : List ℕ) (elf : Elf) (is : IsFaultless file elf) where
  -- functions of the file don't overlap
  pub laid_out : (funcs : List Func) → AreFunctions elf (tabled elf) funcs → AreLaidOut funcs
  laid_out funcs are =
      AreLaidOut-functions elf file is.read (is.plain).sound (tabled elf) funcs are (λ kind place has. is.no_fault kind place (inr has))
