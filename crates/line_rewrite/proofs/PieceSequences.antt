-- The operations and the sequences of a program that is written from pieces.
use Rattle.std.specs.Prelude.{◌==◌, ◌++◌, ℕ, List, [], ◌∷◌, if◌then◌else◌, Option, Some}
use Rattle.line_rewrite.specs.declared.coding.Coding.{Coding}
use Rattle.line_rewrite.specs.declared.registers.Registers.{Registers}
use Rattle.line_rewrite.specs.declared.run_writer.Going.{Going}
use Rattle.line_rewrite.specs.declared.operation.LineOp.{LineOp}
use Rattle.line_rewrite.specs.LineMachine.{Sequence}
use Rattle.line_rewrite.specs.WrittenPrograms.{Piece, piece_end, piece_ops, going_after, closing_ops}

-- The operations of a program, with those that close the last sequence.
unfoldable pub program_ops : Coding → Option Going → List Piece → List LineOp
program_ops coding o [] = closing_ops o
program_ops coding o (u ∷ us) = piece_ops coding o u ++ program_ops coding (Some (going_after coding o u)) us

-- Its sequences

-- The rows and the end of a sequence that goes on from an address, and the sequences after it.
unfoldable pub rows_on : ℕ → List Piece → List Registers
rows_on e [] = []
rows_on e (u ∷ us) = if e == u.start then u.rows ++ rows_on (piece_end u) us else []

unfoldable pub end_on : ℕ → List Piece → ℕ
end_on e [] = e
end_on e (u ∷ us) = if e == u.start then end_on (piece_end u) us else e

abbrev pub strand_at : Piece → List Piece → Sequence
strand_at u us = record { rows = u.rows ++ rows_on (piece_end u) us; end = end_on (piece_end u) us }

unfoldable pub others_on : ℕ → List Piece → List Sequence
others_on e [] = []
others_on e (u ∷ us) = if e == u.start then others_on (piece_end u) us else strand_at u us ∷ others_on (piece_end u) us

-- A sequence that a piece opens, and those after it.
abbrev pub strand : Piece → List Piece → List Sequence
strand u us = strand_at u us ∷ others_on (piece_end u) us

abbrev pub strands : List Piece → List Sequence
strands [] = []
strands (u ∷ us) = strand u us
