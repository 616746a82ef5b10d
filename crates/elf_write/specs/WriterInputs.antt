-- What a file is written from, and the file that is written.
use Rattle.std.specs.Prelude.{◌<◌, ℕ, All, AllPairs, List}
use Rattle.rv_code.specs.declared.layout.Emitted.{Emitted}
use Rattle.rv_code.specs.declared.placed.Func.{Func}
use Rattle.rv_code.specs.layout.FunctionLists.{AreLaidOut}
use Rattle.elf_image.specs.declared.elf.Elf.{Elf}
use Rattle.elf_image.specs.faults.FileFaults.{IsSound}
use Rattle.elf_image.specs.file.ParsedFile.{IsElfOf}
use Rattle.elf_make.specs.WrittenFile.{AreApart, CanHold}

-- The input is a file that was read without a fault, and code and cells fit into it.
pub record AreInputs (elf : Elf) (funcs : List Func) (emitted : Emitted) : Type 0 where
  pub read : IsElfOf elf.file.now elf
  pub sound : IsSound elf.file.now
  pub bytes : All (λ b. b < 256) elf.file.now
  pub cells : All (CanHold elf) emitted.cells.items
  pub apart : AllPairs AreApart emitted.cells.items
  pub laid_out : AreLaidOut funcs

-- A file in which the reader finds no fault, and what it reads of it.
pub record IsRead (w : List ℕ) : Type 0 where
  pub new : Elf
  pub is : IsElfOf w new
  pub sound : IsSound w
