-- Kept sequences, as they are looked up.
use Rattle.std.specs.Prelude.{◌≡◌, List, Option, Some, length, option_and_then, slice_get}
use Rattle.line_rewrite.specs.declared.kept.KeptSequence.{KeptSequence}
use Rattle.line_rewrite.specs.declared.lookup.SequenceView.{SequenceView}
use Rattle.line_rewrite.specs.declared.registers.Registers.{Registers}
use Rattle.line_rewrite.specs.declared.sequence_index.Place.{Place}
use Rattle.line_rewrite.specs.declared.unit.Unit as kept
use Rattle.line_rewrite.specs.Keeping.{AreKept, Begins}
use Rattle.line_rewrite.specs.SequenceIndex.{unit_sequence}
use Rattle.line_rewrite.specs.Walks.{Ascends}

-- A sequence with these rows.
pub record HasRows (rows : List Registers) (v : SequenceView) : Type 0 where
  pub kept : AreKept v.program.coding.now v.program.lengths.now v.program.bytes.now rows v.kept.now
  pub count : v.rows ≡ length rows
  pub ascend : Ascends 0 rows

-- The kept sequence at a place of the units, if there is one.
abbrev pub kept_at : List kept.Unit → Place → Option KeptSequence
kept_at units place = option_and_then (λ u. slice_get u.sequences.items place.sequence) (slice_get units place.unit)

-- The view of the sequence at a place.
pub record IsViewAt (units : List kept.Unit) (place : Place) (v : SequenceView) : Type 0 where
  pub unit : kept.Unit
  pub unit_is : slice_get units place.unit ≡ Some unit
  pub sequence : KeptSequence
  pub sequence_is : slice_get unit.sequences.items place.sequence ≡ Some sequence
  pub has : HasRows (unit_sequence unit sequence).rows v
  pub begins : Begins (length (unit_sequence unit sequence).rows) v.kept.now
