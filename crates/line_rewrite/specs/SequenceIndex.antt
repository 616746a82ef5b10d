-- The sequences of many units, one after another.
use Rattle.std.specs.Prelude.{◌≡◌, ◌+◌, ◌++◌, ℕ, List, [], ◌∷◌, map, slice_get, Option, Some, None, position}
use Rattle.std.specs.List.{find}
use Rattle.answer_runs.specs.declared.range.Range.{Range}
use Rattle.answer_runs.specs.AddressRanges.{holds_address}
use Rattle.answer_runs.specs.FirstRanges.{first_range}
use Rattle.line_rewrite.specs.declared.found.FoundRows.{FoundRows}
use Rattle.line_rewrite.specs.declared.kept.KeptSequence.{KeptSequence}
use Rattle.line_rewrite.specs.declared.registers.Registers.{Registers}
use Rattle.line_rewrite.specs.declared.sequence_index.Place.{Place}
use Rattle.line_rewrite.specs.declared.sequence_index.SequenceIndex as code
use Rattle.line_rewrite.specs.declared.unit.Unit as kept
use Rattle.line_rewrite.specs.LineMachine.{Sequence, in_force}
use Rattle.line_rewrite.specs.KeptSequences.{told_sequence}

-- A sequence, with its unit, the unit's index, and its own index in the unit.
pub record Numbered : Type 0 where
  pub number : ℕ
  pub index : ℕ
  pub unit : kept.Unit
  pub sequence : KeptSequence

-- Sequences of a unit, numbered from an index on.
unfoldable pub numbered : ℕ → kept.Unit → ℕ → List KeptSequence → List Numbered
numbered number unit index [] = []
numbered number unit index (k ∷ ks) =
    record { number = number; index = index; unit = unit; sequence = k } ∷ numbered number unit (index + 1) ks

abbrev pub unit_numbered : ℕ → kept.Unit → List Numbered
unit_numbered number u = numbered number u 0 u.sequences.items

-- The sequences of units that are numbered from an index on.
unfoldable pub all_numbered : ℕ → List kept.Unit → List Numbered
all_numbered number [] = []
all_numbered number (u ∷ us) = unit_numbered number u ++ all_numbered (number + 1) us

-- The addresses that a sequence covers.
abbrev pub kept_range : Numbered → Range
kept_range x = record { low = x.sequence.low; high = x.sequence.end }

abbrev pub place_of : Numbered → Place
place_of x = record { unit = x.number; sequence = x.index }

-- The index of the units' sequences.
pub record IsIndexOf (units : List kept.Unit) (index : code.SequenceIndex) : Type 0 where
  pub places : index.places.items ≡ map place_of (all_numbered 0 units)
  pub first : (a : ℕ) → first_range index.first a ≡ position (holds_address a) (map kept_range (all_numbered 0 units))

-- The first sequence that covers an address.
abbrev pub numbered_at : List kept.Unit → ℕ → Option Numbered
numbered_at units a = find (λ x. holds_address a (kept_range x)) (all_numbered 0 units)

-- A kept sequence of a unit.
abbrev pub unit_sequence : kept.Unit → KeptSequence → Sequence
unit_sequence u k = told_sequence u.header.coding u.header.lengths.items u.program.items k

-- Its rows in force.
abbrev pub numbered_rows : Numbered → ℕ → List Registers
numbered_rows x a = in_force a (unit_sequence x.unit x.sequence).rows

-- The rows in force of the first sequence that covers the address, and the index of its unit.
pub record AreRowsAt (units : List kept.Unit) (a n : ℕ) (present : List Registers) : Type 0 where
  pub first : Numbered
  pub found : numbered_at units a ≡ Some first
  pub number : first.number ≡ n
  pub unit : slice_get units n ≡ Some first.unit
  pub rows : present ≡ numbered_rows first a

abbrev pub IsFound : List kept.Unit → ℕ → FoundRows → Type 0
IsFound units a f = AreRowsAt units a f.unit f.rows.items

-- None, if no sequence covers the address.
abbrev pub AreFound : List kept.Unit → ℕ → Option FoundRows → Type 0
AreFound units a None = numbered_at units a ≡ None
AreFound units a (Some f) = IsFound units a f
