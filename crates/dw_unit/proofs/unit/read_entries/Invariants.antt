use Rattle.std.proofs.Common.{◌≡◌, ◌≤◌, ◌<◌, ◌+◌, ◌^◌, length}
use Rattle.dw_unit.specs.TablesAt.{told_at}
use Rattle.dw_unit.specs.ListedUnits.{with_listed, listed_result}
use Rattle.dw_unit.specs.Walking.{entries_at, unit_bounds}
use Rattle.dw_unit.proofs.unit.read_entries.Given as goal

abbrev pub invariant-entries : goal.invariant-entries
invariant-entries l = record {
  same : with_listed l.entries.items (entries_at (unit_bounds l.unit l.end (told_at l.table)) l.depth l.cursor.left)
      ≡ listed_result (entries_at (unit_bounds l.unit l.end (told_at l.table)) 0 l.fn.cursor.left);
  within : length l.cursor.left ≤ l.end;
  bounded : l.depth + length l.cursor.left < 2 ^ 32;
}

abbrev pub decreases-entries : goal.decreases-entries
decreases-entries l = length l.cursor.left
