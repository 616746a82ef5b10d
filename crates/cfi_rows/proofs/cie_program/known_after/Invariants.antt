use Rattle.std.proofs.Common.{◌≡◌, drop, Some}
use Rattle.cfi_rows.specs.FrameRows.{known_after, begins, nothing_known}
use Rattle.cfi_rows.specs.RowMachines.{state_of}
use Rattle.cfi_rows.proofs.cie_program.known_after.Given as goal

abbrev pub invariant-loop-instruction : goal.invariant-loop-instruction
invariant-loop-instruction l =
    known_after l.fn.instructions (Some (begins 0 nothing_known)) ≡
    known_after (drop l.instruction-index l.fn.instructions) (Some (state_of l.machine))
