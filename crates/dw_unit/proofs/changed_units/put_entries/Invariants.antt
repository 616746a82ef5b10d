use Rattle.std.proofs.Common.{◌≡◌, ◌≤◌, ◌<◌, ◌+◌, ◌^◌, ◌++◌, List, Ok, drop, length, option_map}
use Rattle.std.specs.Prelude.{flat_map}
use Rattle.dw_unit.specs.Changes.{Patch, patched, entry_patches}
use Rattle.dw_unit.specs.CompUnits.{Entry, Sections, Unit, own_entry}
use Rattle.dw_unit.specs.EntryChanges.{own_places}
use Rattle.dw_unit.specs.EntryMoves.{Moves}
use Rattle.dw_unit.specs.TablesAt.{told_at}
use Rattle.dw_unit.specs.UnitChanges.{IsChangeOf}
use Rattle.dw_unit.specs.Walking.{entries_at, unit_bounds}
use Rattle.dw_unit.proofs.changed_units.put_entries.Given as goal

abbrev pub invariant-entries : goal.invariant-entries
invariant-entries l = record {
  behind : l.to + length l.cursor.left ≤ l.end;
  bounded : l.depth + length l.cursor.left < 2 ^ 64;
  read : (es : List Entry) × (entries_at (unit_bounds l.place l.end (told_at l.table)) l.depth l.cursor.left ≡ Ok es);
  put : (s : Sections) (m : Moves) (u : Unit) (ps : List Patch) → IsChangeOf s m l.change → l.own ≡ option_map own_places (own_entry u) →
      entries_at (unit_bounds l.place l.end (told_at l.table)) 0 l.fn.unit.cursor.left ≡ Ok u.entries →
      (es : List Entry) × (entries_at (unit_bounds l.place l.end (told_at l.table)) l.depth l.cursor.left ≡ Ok es)
      × (l.out.items ++ patched l.to (flat_map (entry_patches s m u) es ++ ps) (drop l.to l.change.info.now)
      ≡ l.fn.out.items ++ patched l.fn.from (flat_map (entry_patches s m u) u.entries ++ ps) (drop l.fn.from l.change.info.now));
}

abbrev pub decreases-entries : goal.decreases-entries
decreases-entries l = length l.cursor.left
