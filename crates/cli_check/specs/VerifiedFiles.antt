-- The claim that three files make, and which of them is refused for which fault.
use Rattle.std.specs.Prelude.{◌≡◌, ◌<◌, ◌≤◌, ℕ, List, length}
use Rattle.rb_bytes.specs.Fault.{fault_at}
use Rattle.rb_bytes.specs.declared.fault.Fault.{Fault}
use Rattle.rb_bytes.specs.declared.fault.FaultKind.TheVariants.{TooLarge}
use Rattle.rb_bytes.specs.declared.limit.TheConstants.{MAP_BYTES}
use Rattle.elf_image.specs.declared.elf.Elf.{Elf}
use Rattle.elf_image.specs.file.ParsedFile.{IsElfOf}
use Rattle.map_check.specs.FirstFalse.{Claim, IsVerdict}
use Rattle.map_check.specs.declared.clause.Verdict.{Verdict}
use Rattle.program.specs.Program.{Program}
use Rattle.program.specs.Room.{is_tight_program}
use Rattle.cli_base.specs.ImageFiles.{IsImageFile, IsNoImage}
use Rattle.cli_base.specs.Lines.{refused_line}
use Rattle.cli_base.specs.ProgramFiles.{IsFileProgram, IsNoProgram}
use Rattle.cli_check.specs.GivenFiles.{map_limit}
use Rattle.cli_check.specs.VerdictLines.{refused_output_line}

-- an output that is an image, with its reader's representation
pub record IsOutputFile (file : List ℕ) (elf : Elf) : Type 0 where
  pub read : IsElfOf file elf
  pub image : IsImageFile file

abbrev pub claim_of : Program → Elf → List ℕ → Claim
claim_of program output map = record {
  input = program.elf;
  code = program.code;
  tight = is_tight_program program;
  output = output;
  text = map;
}

-- The input is checked first, then the output, and then the length of the map. Each is refused with its own line.
pub data IsRefusedBy (input output map : List ℕ) (fault : Fault) (line : List ℕ) : Type 0 where
  by_input : IsNoProgram input fault → line ≡ refused_line fault → IsRefusedBy input output map fault line
  by_output : (program : Program) → IsFileProgram input program → IsNoImage output fault →
      line ≡ refused_output_line fault → IsRefusedBy input output map fault line
  by_map : (program : Program) → IsFileProgram input program → (elf : Elf) → IsOutputFile output elf →
      map_limit < length map → fault ≡ fault_at TooLarge MAP_BYTES → line ≡ refused_line fault →
      IsRefusedBy input output map fault line

-- the verdict on the claim that the files make
pub record IsVerdictOn (input output map : List ℕ) (v : Verdict) : Type 0 where
  pub program : Program
  pub program_is : IsFileProgram input program
  pub elf : Elf
  pub output_is : IsOutputFile output elf
  pub fits : length map ≤ map_limit
  pub verdict : IsVerdict (claim_of program elf map) v
