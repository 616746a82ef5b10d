-- Rows that are remembered from a look-up, for those near it.
use Rattle.std.specs.Prelude.{◌≡◌, ◌≤◌, ◌<◌, ◌+◌, ◌++◌, ℕ, List, Option, Some, None, filter_map, option_map, slice_get}
use Rattle.line_rewrite.specs.declared.near.NearRows.{NearRows}
use Rattle.line_rewrite.specs.declared.registers.Registers.{Registers}
use Rattle.line_rewrite.specs.declared.unit.Unit as kept
use Rattle.line_rewrite.specs.LineAnswers.{LineSaid, first_address, line_units, row_said}
use Rattle.line_rewrite.specs.LineMachine.{in_force}
use Rattle.line_rewrite.specs.SequenceIndex.{AreRowsAt, numbered_at}
use Rattle.line_rewrite.specs.Tables.{LineSections, line_at}
use Rattle.line_rewrite.specs.Walks.{Ascends}

-- Some rows decide which of all rows are in force, from one address up to another.
pub record AreEnough (low high : ℕ) (near rows : List Registers) : Type 0 where
  pub ascend : Ascends 0 near
  pub same : (x : ℕ) → low ≤ x → x ≤ high → in_force x near ≡ in_force x rows

-- The first of some rows is above an address, if there are any.
abbrev pub IsPast : ℕ → List Registers → Type 0
IsPast last rows = last < first_address rows (last + 1)

-- The first of all rows, before others that are past an address.
pub record IsFront (last : ℕ) (front rows : List Registers) : Type 0 where
  pub others : List Registers
  pub are : rows ≡ front ++ others
  pub past : IsPast last others

-- The rows decide for an address.
pub record Reaches (near : NearRows) (a : ℕ) : Type 0 where
  pub low : near.low ≤ a
  pub high : a ≤ near.high

-- The remembered rows decide which rows of the kept units are in force.
pub record AreNear (units : List kept.Unit) (near : NearRows) : Type 0 where
  pub ascend : Ascends 0 near.rows.items
  pub found : (x : ℕ) → near.low ≤ x → x ≤ near.high → AreRowsAt units x near.unit (in_force x near.rows.items)

-- There are such rows for an address, unless no sequence covers it.
abbrev pub AreNearAt : List kept.Unit → ℕ → Option NearRows → Type 0
AreNearAt units a None = numbered_at units a ≡ None
AreNearAt units a (Some near) = AreNear units near × Reaches near a

-- The answer with rows of the unit with an index.
abbrev pub said_by : LineSections → ℕ → List Registers → Option LineSaid
said_by s number rows =
    option_map (λ u. record { unit = number; rows = filter_map (row_said u) rows })
    (slice_get (line_units s.strings s.line) number)

-- The remembered rows decide which answers the sections have.
pub record IsNear (s : LineSections) (near : NearRows) : Type 0 where
  pub ascend : Ascends 0 near.rows.items
  pub said : (x : ℕ) → near.low ≤ x → x ≤ near.high → line_at s x ≡ said_by s near.unit (in_force x near.rows.items)
