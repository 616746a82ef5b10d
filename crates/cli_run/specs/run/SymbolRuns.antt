-- Runs on the symbol machine, which gets a file's functions and code cells, and whether the file is tight.
use Rattle.std.specs.Prelude.{ℕ, List}
use Rattle.sym_machine.specs.SymStart.{SymProgram, program_start}
use Rattle.sym_machine.specs.SymStep.{SymSteps}
use Rattle.sym_machine.specs.declared.outcome.Reason.{Reason}
use Rattle.sym_machine.specs.declared.value.MemoryByte.{MemoryByte}
use Rattle.sym_machine.specs.declared.value.Value.{Value}
use Rattle.program.specs.Program.{Program}
use Rattle.program.specs.Room.{is_tight_program}
use Rattle.cli_base.specs.ProgramFiles.{IsFileProgram, IsNoProgram, IsProgramFile}
use Rattle.cli_run.specs.run.RunOutcomes.{Loaded}
use Rattle.cli_run.specs.run.Modes.{Mode}
use Rattle.cli_base.specs.declared.status.Status.TheVariants as status

-- the program that the machine gets
abbrev pub symbol_program : Program → SymProgram
symbol_program x = record { elf = x.elf; funcs = x.code.funcs; cells = x.code.cells; tight = is_tight_program x }

abbrev pub symbol_machine : Program → List (List ℕ) → Loaded Value MemoryByte Reason
symbol_machine x args =
    record { step = SymSteps x.code.funcs; start = program_start (symbol_program x) args; halted = status.Stuck }

abbrev pub symbol_mode : Mode Program Value MemoryByte Reason
symbol_mode = record {
  IsProgram = IsFileProgram;
  machine = symbol_machine;
  CanRun = IsProgramFile;
  CannotRun = IsNoProgram;
}
