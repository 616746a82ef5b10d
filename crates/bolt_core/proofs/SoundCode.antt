-- Properties of the code of a file without faults.
use Rattle.std.proofs.Common.{◌<◌, sym, subst, inr, ℕ, List}
use Rattle.std.specs.Prelude.{All}
use Rattle.rv_code.specs.declared.placed.Block.{Block}
use Rattle.rv_code.specs.layout.Flow.{insts_of}
use Rattle.rv_code.specs.layout.FunctionLists.{AreLaidOut}
use Rattle.rv_code.specs.layout.ProgramCode.{ProgramCode}
use Rattle.elf_image.specs.declared.elf.Elf.{Elf}
use Rattle.move_law.specs.Laws.{IsAcceptedCode}
use Rattle.cfg_build.proofs.layout.AcceptedCode.{AreLaidOut-functions}
use Rattle.branch_fixup.specs.Inputs.{AreDirect}
use Rattle.code_emit.specs.Inputs.{CanMove, IsLowCell}
use Rattle.code_emit.proofs.Accepted.{can_move, low_cells}
use Rattle.elf_code.specs.CodeFaults.{HasCodeFault}
use Rattle.elf_code.specs.FileCode.{IsCodeOf}
use Rattle.elf_image.specs.faults.FileFaults.{IsSound}
use Rattle.elf_image.specs.file.ParsedFile.{IsElfOf}
use Rattle.rb_bytes.specs.FirstFault.{IsFree}
use Rattle.cfi_rows.specs.Frames.{tabled}
use Rattle.func_place.specs.Faults.{HasPlacementFault}
use Rattle.program.specs.Program.{Program}
use Rattle.bolt_core.specs.Refusals.{IsInput}
use Rattle.bolt_core.proofs.Direct.{are_direct}

-- a file that was read, with its code, without any fault
pub record IsSoundCode (elf : Elf) (code : ProgramCode) : Type 0 where
  pub bytes : All (λ b. b < 256) elf.file.now
  pub read : IsElfOf elf.file.now elf
  pub sound : IsSound elf.file.now
  pub code_is : IsCodeOf elf (tabled elf) code
  pub no_fault : IsFree (HasCodeFault elf (tabled elf))

pub of_input : {file profile : List ℕ} {x : Program} → IsInput file profile x → All (λ b. b < 256) file →
    IsSoundCode x.elf x.code
of_input {x = x} is bytes =
    let faultless = (is.program).faultless in
    record {
      bytes = subst (λ (f : List ℕ). All (λ b. b < 256) f) (sym (faultless.read).file_is) bytes;
      read = subst (λ (f : List ℕ). IsElfOf f x.elf) (sym (faultless.read).file_is) faultless.read;
      sound = subst IsSound (sym (faultless.read).file_is) (faultless.plain).sound;
      code_is = (is.program).code_is;
      no_fault = faultless.no_fault;
    }

module _ (elf : Elf) (code : ProgramCode) (is : IsSoundCode elf code) where
  abbrev pub accepted : IsAcceptedCode elf code
  accepted = record {
    bytes = is.bytes;
    read = is.read;
    sound = is.sound;
    tabled = tabled elf;
    code_is = is.code_is;
    no_fault = is.no_fault;
  }

  pub laid : AreLaidOut code.funcs
  laid =
      AreLaidOut-functions elf elf.file.now is.read is.sound (tabled elf) code.funcs (is.code_is).funcs
      (λ kind place has. is.no_fault kind place (inr has))

  pub direct : (blocks : List Block) → IsFree (HasPlacementFault code.funcs blocks) → AreDirect code.funcs
  direct blocks free = are_direct elf code accepted laid blocks free

  pub insts : All CanMove (insts_of code.funcs)
  insts = can_move elf code accepted laid

  pub cells : All IsLowCell code.cells
  cells = low_cells elf code accepted laid
