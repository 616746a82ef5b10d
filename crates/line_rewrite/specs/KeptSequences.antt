-- Sequences that are kept as some states of the walks over them.
use Rattle.std.specs.Prelude.{◌≡◌, ℕ, All, List, drop, length, map}
use Rattle.line_rewrite.specs.declared.coding.Coding.{Coding}
use Rattle.line_rewrite.specs.declared.kept.KeptSequence.{KeptSequence}
use Rattle.line_rewrite.specs.declared.line_program.LineProgram.{LineProgram}
use Rattle.line_rewrite.specs.Operations.{operations}
use Rattle.line_rewrite.specs.LineMachine.{Sequence, sequences, start}
use Rattle.line_rewrite.specs.LineAnswers.{first_address}
use Rattle.line_rewrite.specs.Keeping.{rows_at_place, AreKept, Begins}

-- The sequence that begins at an offset of a program.
abbrev pub sequence_at : Coding → List ℕ → List ℕ → ℕ → ℕ → Sequence
sequence_at coding lengths program place end =
    record { rows = rows_at_place coding lengths program (start coding) place; end = end }

-- The sequences from an offset of a program on.
abbrev pub sequences_at : LineProgram → ℕ → List Sequence
sequences_at p place =
    sequences p.coding.now (operations p.coding.now.opcode_base p.lengths.now (drop place p.bytes.now))

-- The sequence of which the states are kept.
abbrev pub told_sequence : Coding → List ℕ → List ℕ → KeptSequence → Sequence
told_sequence coding lengths program k = sequence_at coding lengths program k.place k.end

-- A kept sequence: its states are of the walk over its rows, and are enough to find each row.
pub record IsKept (coding : Coding) (lengths program : List ℕ) (k : KeptSequence) : Type 0 where
  pub states : AreKept coding lengths program (told_sequence coding lengths program k).rows k.kept.items
  pub begins : Begins (length (told_sequence coding lengths program k).rows) k.kept.items
  pub count : k.rows ≡ length (told_sequence coding lengths program k).rows
  pub low : k.low ≡ first_address (told_sequence coding lengths program k).rows k.end

-- The kept sequences of a program.
pub record AreSequences (coding : Coding) (lengths program : List ℕ) (ks : List KeptSequence) : Type 0 where
  pub are : sequences coding (operations coding.opcode_base lengths program) ≡ map
      (told_sequence coding lengths program) ks
  pub kept : All (IsKept coding lengths program) ks
