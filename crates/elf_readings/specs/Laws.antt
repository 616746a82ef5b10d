-- Two readings of one file have equal fields, but their names and lists are at different places in memory, so the
-- readings aren't equal values. All statements on the file's code are the same for both.
use Rattle.std.specs.Prelude.{◌≡◌, ◌↔◌, ℕ, List, length, map}
use Rattle.rb_bytes.specs.declared.fault.Fault.{Fault}
use Rattle.rb_bytes.specs.declared.fault.FaultKind.{FaultKind}
use Rattle.rv_code.specs.declared.cell.CodeCell.{CodeCell}
use Rattle.rv_code.specs.declared.placed.Func.{Func}
use Rattle.rv_code.specs.declared.placed.Role.{Role}
use Rattle.elf_image.specs.declared.elf.Elf.{Elf}
use Rattle.elf_code.specs.FileCode.{AreStarts, AreRoles, AreCells}
use Rattle.elf_code.specs.Functions.{IsCodeAddress, AreFunctions}
use Rattle.elf_code.specs.CodeFaults.{HasCodeFault}
use Rattle.rb_bytes.specs.FirstFault.{IsFree, IsAnswered}
use Rattle.elf_image.specs.file.ParsedFile.{IsElfOf}

-- Whatever holds for the code of one reading holds for the code of the other.
pub record HaveSameCode (elf elf' : Elf) (tabled : List (ℕ × ℕ)) : Type 0 where
  pub faults : (kind : FaultKind) (place : ℕ) → HasCodeFault elf tabled kind place ↔ HasCodeFault elf' tabled kind place
  pub free : IsFree (HasCodeFault elf tabled) ↔ IsFree (HasCodeFault elf' tabled)
  pub answers : (fault : Fault) → IsAnswered (HasCodeFault elf tabled) fault ↔ IsAnswered
      (HasCodeFault elf' tabled) fault
  pub starts : (starts : List ℕ) → AreStarts elf starts ↔ AreStarts elf' starts
  pub code_addresses : (a : ℕ) → IsCodeAddress elf tabled a ↔ IsCodeAddress elf' tabled a
  pub functions : (funcs : List Func) → AreFunctions elf tabled funcs ↔ AreFunctions elf' tabled funcs
  pub roles : (roles : List (ℕ × Role)) → AreRoles elf roles ↔ AreRoles elf' roles
  pub cells : (cells : List CodeCell) → AreCells elf tabled cells ↔ AreCells elf' tabled cells

abbrev pub bounds : Func → ℕ × ℕ
bounds f = (f.start, f.end)

-- Lists of starts, roles and cells are the same for both readings. Functions have the same bounds.
pub record HaveOneList (elf elf' : Elf) (tabled : List (ℕ × ℕ)) : Type 0 where
  pub starts : (xs ys : List ℕ) → AreStarts elf xs → AreStarts elf' ys → xs ≡ ys
  pub roles : (xs ys : List (ℕ × Role)) → AreRoles elf xs → AreRoles elf' ys → xs ≡ ys
  pub cells : (xs ys : List CodeCell) → AreCells elf tabled xs → AreCells elf' tabled ys → xs ≡ ys
  pub functions : (xs ys : List Func) → AreFunctions elf tabled xs → AreFunctions elf' tabled ys →
      map bounds xs ≡ map bounds ys
  pub function_count : (xs ys : List Func) → AreFunctions elf tabled xs → AreFunctions elf' tabled ys →
      length xs ≡ length ys

-- The law, for all files and all ranges of code with exception tables.
abbrev pub ReadingLaw : Type 0
ReadingLaw =
    (file : List ℕ) (elf elf' : Elf) → IsElfOf file elf → IsElfOf file elf' → (tabled : List (ℕ × ℕ)) →
    HaveSameCode elf elf' tabled × HaveOneList elf elf' tabled
