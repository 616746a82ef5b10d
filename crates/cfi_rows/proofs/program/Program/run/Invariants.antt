use Rattle.std.proofs.Common.{◌≡◌, [], drop}
use Rattle.cfi_rows.specs.FrameRows.{rows}
use Rattle.cfi_rows.specs.RowMachines.{state_of}
use Rattle.cfi_rows.specs.RowHistories.{Keeps, told, before}
use Rattle.cfi_rows.proofs.program.Program.run.Given as goal

abbrev pub invariant-loop-instruction : goal.invariant-loop-instruction
invariant-loop-instruction l = record {
  keeps : Keeps l.history l.machine.rules;
  rows : rows [] l.self.instructions.items (state_of l.initial.machine)
      ≡ before (told l.history) (rows [] (drop l.instruction-index l.self.instructions.items) (state_of l.machine));
}
