use Rattle.std.proofs.Common.{◌≡◌, ◌++◌, length}
use Rattle.line_rewrite.specs.Keeping.{rows_behind, rows_left}
use Rattle.line_rewrite.proofs.walk.rows_from.Given as goal

abbrev pub invariant-loop-n : goal.invariant-loop-n
invariant-loop-n l = record {
  rows : l.rows.items ++ rows_left l.program l.cursor.left l.present ≡ rows_behind l.program l.state;
  count : length l.rows.items ≡ l.n;
}
