use Rattle.std.proofs.Common.{◌≡◌, ◌≤◌, ◌+◌, length}
use Rattle.dw_unit.specs.TablesAt.{told_at}
use Rattle.dw_unit.specs.Walking.{entries_at, unit_bounds}
use Rattle.dw_unit.proofs.walk.next_entry.Given as goal

abbrev pub invariant-codes : goal.invariant-codes
invariant-codes l = record {
  same : entries_at (unit_bounds l.unit l.end (told_at l.table)) l.depth l.cursor.left
      ≡ entries_at (unit_bounds l.unit l.end (told_at l.table)) l.fn.depth l.fn.cursor.left;
  on : length l.cursor.left ≤ length l.fn.cursor.left;
  bounded : l.depth + length l.cursor.left ≤ l.fn.depth + length l.fn.cursor.left;
}

abbrev pub decreases-codes : goal.decreases-codes
decreases-codes l = length l.cursor.left
