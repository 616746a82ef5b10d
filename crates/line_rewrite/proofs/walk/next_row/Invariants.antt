use Rattle.std.proofs.Common.{◌≡◌, length}
use Rattle.line_rewrite.specs.Keeping.{rows_left}
use Rattle.line_rewrite.proofs.walk.next_row.Given as goal

abbrev pub invariant-ops : goal.invariant-ops
invariant-ops l =
    rows_left l.program l.cursor.left l.present ≡ rows_left l.program l.fn.cursor.left l.fn.present

abbrev pub decreases-ops : goal.decreases-ops
decreases-ops l = length l.cursor.left
