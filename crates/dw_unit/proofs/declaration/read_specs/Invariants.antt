use Rattle.std.proofs.Common.{◌≡◌, ◌≤◌, length}
use Rattle.dw_unit.specs.Declarations.{specs_at}
use Rattle.dw_unit.proofs.Walks.{with_front}
use Rattle.dw_unit.proofs.declaration.read_specs.Given as goal

abbrev pub invariant-specs : goal.invariant-specs
invariant-specs l = record {
  same : with_front l.specs.items (specs_at l.cursor.left) ≡ specs_at l.fn.cursor.left;
  on : length l.cursor.left ≤ length l.fn.cursor.left;
}

abbrev pub decreases-specs : goal.decreases-specs
decreases-specs l = length l.cursor.left
