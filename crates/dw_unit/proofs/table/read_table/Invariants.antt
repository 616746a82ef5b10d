use Rattle.std.proofs.Common.{◌≡◌, ◌≤◌, length, map}
use Rattle.dw_unit.specs.Declarations.{table_within, table_at}
use Rattle.dw_unit.specs.Told.{told_declaration}
use Rattle.dw_unit.proofs.Walks.{with_before}
use Rattle.dw_unit.proofs.table.read_table.Given as goal

abbrev pub invariant-table : goal.invariant-table
invariant-table l = record {
  same : with_before (map told_declaration l.list.items) (table_within (length l.cursor.left) (length l.section) l.cursor.left)
      ≡ table_at l.section l.offset;
  on : length l.cursor.left ≤ length l.section;
}

abbrev pub decreases-table : goal.decreases-table
decreases-table l = length l.cursor.left
