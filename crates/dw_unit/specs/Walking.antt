-- Entries read one by one.
use Rattle.std.specs.Prelude.{ℕ, List, length, Result}
use Rattle.dw_unit.specs.declared.entry.Attr.{Attr}
use Rattle.dw_unit.specs.declared.trouble.Trouble.{Trouble}
use Rattle.dw_unit.specs.Declarations.{Declaration, Table}
use Rattle.dw_unit.specs.CompUnits.{Entry, UnitBounds, entries_within}

-- The entries in the bytes left, from a depth on.
abbrev pub entries_at : UnitBounds → ℕ → List ℕ → Result (List Entry) Trouble
entries_at u depth left = entries_within u (length left) depth left

-- An entry of the unit `u`.
abbrev pub walked_entry : UnitBounds → ℕ → ℕ → Declaration → List Attr → Entry
walked_entry u place depth d attrs = record {
  place = place;
  unit = u.place;
  depth = depth;
  declaration = d;
  attrs = attrs;
}

abbrev pub unit_bounds : ℕ → ℕ → Table → UnitBounds
unit_bounds place end table = record { place = place; end = end; table = table }
