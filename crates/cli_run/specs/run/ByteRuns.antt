-- Runs on the byte machine, which gets the whole file.
use Rattle.std.specs.Prelude.{◌≡◌, ℕ, List}
use Rattle.rv_code.specs.declared.cause.Cause.{Cause}
use Rattle.rv_code.specs.machine.Step.{Steps}
use Rattle.rv_memory.specs.Start.{start}
use Rattle.cli_base.specs.ImageFiles.{IsImageFile, IsNoImage}
use Rattle.cli_run.specs.run.RunOutcomes.{Loaded}
use Rattle.cli_run.specs.run.Modes.{Mode}
use Rattle.cli_base.specs.declared.status.Status.TheVariants as status

abbrev pub byte_machine : List ℕ → List (List ℕ) → Loaded ℕ ℕ Cause
byte_machine file args = record { step = Steps; start = start file args; halted = status.Trapped }

-- the machine gets all bytes of a file that can be run
pub record IsByteProgram (file program : List ℕ) : Type 0 where
  pub program_is : program ≡ file
  pub image : IsImageFile file

abbrev pub byte_mode : Mode (List ℕ) ℕ ℕ Cause
byte_mode = record {
  IsProgram = IsByteProgram;
  machine = byte_machine;
  CanRun = IsImageFile;
  CannotRun = IsNoImage;
}
