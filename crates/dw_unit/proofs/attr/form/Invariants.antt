use Rattle.std.proofs.Common.{◌≡◌, ◌≤◌, length}
use Rattle.dw_unit.specs.CompUnits.{form_at}
use Rattle.dw_unit.proofs.attr.form.Given as goal

abbrev pub invariant-forms : goal.invariant-forms
invariant-forms l = record {
  same : form_at l.declaration l.found l.cursor.left ≡ form_at l.declaration l.form l.fn.cursor.left;
  on : length l.cursor.left ≤ length l.fn.cursor.left;
}

abbrev pub decreases-forms : goal.decreases-forms
decreases-forms l = length l.cursor.left
