-- The program that is written for the runs of a unit. A sequence goes on over runs that touch. DWARF 5, section 6.2.5.
use Rattle.std.specs.Prelude.{◌+◌, ◌-◌, ◌==◌, ◌++◌, ℕ, List, [], ◌∷◌, if◌then◌else◌, Option, Some, None}
use Rattle.line_rewrite.specs.declared.coding.Coding.{Coding}
use Rattle.line_rewrite.specs.declared.registers.Registers.{Registers}
use Rattle.line_rewrite.specs.declared.run_writer.Going.{Going}
use Rattle.line_rewrite.specs.declared.operation.LineOp.{LineOp}
use Rattle.line_rewrite.specs.declared.operation.LineOp.TheVariants.{AdvancePc, EndSequence, SetAddress, SetFile}
use Rattle.line_rewrite.specs.LineMachine.{after_row, start}
use Rattle.line_rewrite.specs.Written.{rows_ops, all_spelled}

-- The rows of a run, at its start.
pub record Piece : Type 0 where
  pub start : ℕ
  pub len : ℕ
  pub rows : List Registers

-- The address of a run's end.
abbrev pub piece_end : Piece → ℕ
piece_end u = u.start + u.len

-- The registers after rows.
abbrev pub after_rows : Registers → List Registers → Registers
after_rows r [] = r
after_rows r (row ∷ rows) = after_rows (after_row row) rows

-- The file of the first row; without rows, the initial file of DWARF.
abbrev pub first_file : List Registers → ℕ
first_file [] = 1
first_file (row ∷ rows) = row.file

-- The registers before the first row of a sequence.
abbrev pub opened : Coding → ℕ → List Registers → Registers
opened coding address rows = record (start coding) { address = address; file = first_file rows }

-- The operations that end the open sequence.
abbrev pub close_ops : Going → List LineOp
close_ops g = AdvancePc (g.end - g.registers.address) ∷ EndSequence ∷ []

-- A sequence sets its first file, even if that is file 1: some readers begin with file 0.
abbrev pub open_ops : Coding → ℕ → List Registers → List LineOp
open_ops coding a rows = SetAddress a ∷ SetFile (first_file rows) ∷ rows_ops (opened coding a rows) rows

-- Rows at an address: in the open sequence if it ends there, and otherwise in a new one.
abbrev pub run_ops : Coding → Option Going → ℕ → List Registers → List LineOp
run_ops coding None a rows = open_ops coding a rows
run_ops coding (Some g) a rows = if g.end == a then rows_ops g.registers rows else close_ops g ++ open_ops coding a rows

-- The registers after these rows.
abbrev pub registers_after : Coding → Option Going → ℕ → List Registers → Registers
registers_after coding None a rows = after_rows (opened coding a rows) rows
registers_after coding (Some g) a rows = after_rows (if g.end == a then g.registers else opened coding a rows) rows

-- The operations for a run.
abbrev pub piece_ops : Coding → Option Going → Piece → List LineOp
piece_ops coding o u = run_ops coding o u.start u.rows

-- The open sequence after a run.
abbrev pub going_after : Coding → Option Going → Piece → Going
going_after coding o u = record { registers = registers_after coding o u.start u.rows; end = piece_end u }

-- A program that was begun: its bytes, and the sequence that is open.
pub record Begun : Type 0 where
  pub bytes : List ℕ
  pub going : Option Going

abbrev pub nothing_begun : Begun
nothing_begun = record { bytes = []; going = None }

-- A program with one more run.
abbrev pub with_piece : Coding → Begun → Piece → Begun
with_piece coding b u =
    record { bytes = b.bytes ++ all_spelled (piece_ops coding b.going u); going = Some (going_after coding b.going u) }

abbrev pub closing_ops : Option Going → List LineOp
closing_ops None = []
closing_ops (Some g) = close_ops g

-- The bytes of a program whose last sequence is closed.
abbrev pub closed : Begun → List ℕ
closed b = b.bytes ++ all_spelled (closing_ops b.going)
