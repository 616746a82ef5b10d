-- Recorded runs: runs on the byte machine, and their moves between the blocks of the file's code.
use Rattle.std.specs.Prelude.{◌-◌, ℕ, List}
use Rattle.rv_code.specs.declared.cause.Cause.{Cause}
use Rattle.program.specs.Program.{Program}
use Rattle.cli_run.specs.run.ByteRuns.{byte_machine}
use Rattle.cli_run.specs.run.RunOutcomes.{Ending, Ends, Loaded}
use Rattle.cli_run.specs.run.Modes.{Mode}
use Rattle.cli_base.specs.ProgramFiles.{IsProgramFile, IsNoProgram, IsFileProgram}

abbrev pub record_machine : Program → List (List ℕ) → Loaded ℕ ℕ Cause
record_machine program args = byte_machine program.elf.file.now args

-- `record` accepts the files that `run --symbols` accepts, and runs them on the byte machine
abbrev pub record_mode : Mode Program ℕ ℕ Cause
record_mode = record {
  IsProgram = IsFileProgram;
  machine = record_machine;
  CanRun = IsProgramFile;
  CannotRun = IsNoProgram;
}

-- the number of counted steps that make a move: all except one that ends the program
abbrev pub moving_steps : Ending Cause → ℕ → ℕ
moving_steps (Ends value) n = n - 1
moving_steps _ n = n
