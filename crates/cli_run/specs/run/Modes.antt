-- The modes of the command `run`: the machine, and the files that it accepts.
use Rattle.std.specs.Prelude.{List, ℕ}
use Rattle.rb_bytes.specs.declared.fault.Fault.{Fault}
use Rattle.cli_run.specs.run.RunOutcomes.{Loaded}

-- P is the type of the program that the machine gets.
pub record Mode (P V X C : Type 0) : Type 1 where
  -- the program that the machine gets of a file that can be run
  pub IsProgram : List ℕ → P → Type 0
  -- the machine with this program, and with the program's arguments
  pub machine : P → List (List ℕ) → Loaded V X C
  -- the file has no fault; and the fault for which a file isn't run
  pub CanRun : List ℕ → Type 0
  pub CannotRun : List ℕ → Fault → Type 0
