use Rattle.std.proofs.Common.{◌≡◌, [], drop}
use Rattle.line_rewrite.specs.Walks.{latest}
use Rattle.line_rewrite.proofs.walk.in_force.Given as goal

abbrev pub invariant-loop-row : goal.invariant-loop-row
invariant-loop-row l = latest l.found.items l.a (drop l.row-index l.rows) ≡ latest [] l.a l.rows
