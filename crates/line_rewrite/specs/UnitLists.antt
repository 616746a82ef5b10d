-- The units of a line table that are kept.
use Rattle.std.specs.Prelude.{⊤, ◌≡◌, ◌≤◌, ◌+◌, ℕ, All, List, length, map, sum_by, Option, Some, None, position}
use Rattle.rb_bytes.specs.declared.fault.FaultKind.TheVariants.{LineFault}
use Rattle.rb_bytes.specs.declared.fault.Refusal.{Refusal}
use Rattle.rb_bytes.specs.declared.fault.Refusal.TheVariants as refusal
use Rattle.rb_bytes.specs.Fault.{fault_at}
use Rattle.answer_runs.specs.declared.range.Range.{Range}
use Rattle.answer_runs.specs.declared.first_range.FirstRange.{FirstRange}
use Rattle.answer_runs.specs.AddressRanges.{holds_address}
use Rattle.answer_runs.specs.FirstRanges.{first_range}
use Rattle.table_core.specs.DebugUnits.{Walked, walked}
use Rattle.line_rewrite.specs.declared.sequence_index.SequenceIndex.{SequenceIndex}
use Rattle.line_rewrite.specs.declared.unit.Unit as kept
use Rattle.line_rewrite.specs.Entries.{Strings}
use Rattle.line_rewrite.specs.KeptUnits.{HasTables, told_unit}
use Rattle.line_rewrite.specs.SequenceIndex.{IsIndexOf}
use Rattle.line_rewrite.specs.Tables.{LineSections, line_version}
use Rattle.line_rewrite.specs.LineUnits.{unit_in, first_unread}

-- The size of a unit with its length, in bytes.
abbrev pub bytes_size : Option (List ℕ) → ℕ
bytes_size None = 0
bytes_size (Some bytes) = 4 + length bytes

abbrev pub walked_size : Walked → ℕ
walked_size w = bytes_size w.bytes

-- A lower bound of it: the bytes that are kept of the header, and the numbers before them.
abbrev pub kept_size : kept.Unit → ℕ
kept_size u = length u.header.rest.items + 18

-- Each unit that the walk found was read.
pub record AreUnits (strings : Strings) (ws : List Walked) (us : List kept.Unit) : Type 0 where
  pub are : map (unit_in strings) ws ≡ map (λ u. Some (told_unit strings u)) us
  pub tables : All (λ u. HasTables strings u.header) us
  pub sizes : sum_by kept_size us ≤ sum_by walked_size ws

-- A refusal has the first unit that can't be read. Memory may run out at any time.
abbrev pub IsLineFault : Strings → List Walked → Refusal → Type 0
IsLineFault strings ws (refusal.Fault fault) =
    (fault ≡ fault_at LineFault fault.place) × (first_unread strings ws ≡ Some fault.place)
IsLineFault strings ws refusal.Memory = ⊤

-- The offset of a unit, as a range.
abbrev pub place_range : Walked → Range
place_range w = record { low = w.place; high = w.place + 1 }

-- The units that are kept of a section without a fault.
pub record AreLines (s : LineSections) (us : List kept.Unit) (sequences : SequenceIndex)
    (offsets : FirstRange) : Type 0 where
  pub version : line_version s ≡ None
  pub units : AreUnits s.strings (walked 5 s.line) us
  pub indexed : IsIndexOf us sequences
  pub placed : (a : ℕ) → first_range offsets a ≡ position (holds_address a) (map place_range (walked 5 s.line))
