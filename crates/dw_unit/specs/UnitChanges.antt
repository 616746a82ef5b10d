-- What the change of a file's units depends on.
use Rattle.std.specs.Prelude.{◌≡◌, ℕ, Some}
use Rattle.std.specs.BTreeMap.{get}
use Rattle.std.specs.Ordering.{nat_cmp}
use Rattle.dw_unit.specs.declared.unit_change.UnitChange.{UnitChange}
use Rattle.dw_unit.specs.Changes.{new_offset}
use Rattle.dw_unit.specs.CompUnits.{Sections}
use Rattle.dw_unit.specs.EntryMoves.{Moves}
use Rattle.dw_unit.specs.MovesOf.{AreMovesIn}
use Rattle.dw_unit.specs.OwnPlaces.{AreOwn}

-- The struct `c` has the moves, old tables, own declarations and new offsets of these sections.
pub record IsChangeOf (s : Sections) (m : Moves) (c : UnitChange) : Type 0 where
  pub moves : AreMovesIn m c.moves.now
  pub abbrevs : s.abbrevs ≡ c.tables.now.section.now
  pub own : AreOwn s c.own.now
  pub offsets : (q n : ℕ) → get nat_cmp c.new_tables.now.offsets q ≡ Some n → n ≡ new_offset s q
