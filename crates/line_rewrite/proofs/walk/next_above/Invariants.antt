use Rattle.std.proofs.Common.{◌≡◌, drop}
use Rattle.line_rewrite.specs.Walks.{next_above}
use Rattle.line_rewrite.proofs.walk.next_above.Given as goal

abbrev pub invariant-loop-row : goal.invariant-loop-row
invariant-loop-row l = next_above l.a (drop l.row-index l.rows) ≡ next_above l.a l.rows
