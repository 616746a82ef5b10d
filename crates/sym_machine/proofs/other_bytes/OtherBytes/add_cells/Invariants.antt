use Rattle.std.proofs.Common.{◌≡◌, ◌≤◌, ℕ, drop, length}
use Rattle.sym_machine.specs.SymStart.{code_cell_byte}
use Rattle.sym_machine.specs.internal.SpecialBytes.{special}
use Rattle.sym_machine.proofs.other_bytes.OtherBytes.add_cells.Given as goal

abbrev pub invariant-loop-left : goal.invariant-loop-left
invariant-loop-left l = record {
  within : l.left ≤ length l.cells;
  done : (q : ℕ) → special l.self q ≡ code_cell_byte (drop l.left l.cells) q;
}

abbrev pub decreases-loop-left : goal.decreases-loop-left
decreases-loop-left l = l.left
