use Rattle.std.proofs.Common.{◌≡◌, ◌++◌, All, drop, take}
use Rattle.line_rewrite.specs.Written.{IsRow, moved, rows_ops, all_spelled}
use Rattle.line_rewrite.specs.WrittenPrograms.{after_rows}
use Rattle.line_rewrite.proofs.run_writer.put_rows.Given as goal

abbrev pub invariant-loop-row : goal.invariant-loop-row
invariant-loop-row l = record {
  written : l.out.items ++ all_spelled (rows_ops l.present (moved l.address (drop l.row-index l.rows)))
      ≡ l.fn.out.items ++ all_spelled (rows_ops l.fn.from (moved l.address l.rows));
  after : after_rows l.present (moved l.address (drop l.row-index l.rows)) ≡ after_rows l.fn.from (moved l.address l.rows);
  fits : All IsRow (moved l.address (take l.row-index l.rows));
}
