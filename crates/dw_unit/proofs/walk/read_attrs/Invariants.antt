use Rattle.std.proofs.Common.{◌≡◌, ◌≤◌, length, drop}
use Rattle.dw_unit.specs.CompUnits.{attrs_at}
use Rattle.dw_unit.proofs.Walks.{with_front}
use Rattle.dw_unit.proofs.walk.read_attrs.Given as goal

abbrev pub invariant-loop-spec : goal.invariant-loop-spec
invariant-loop-spec l = record {
  same : with_front l.attrs.items (attrs_at l.end l.declaration (drop l.spec-index l.specs) l.cursor.left)
      ≡ attrs_at l.end l.declaration l.specs l.fn.cursor.left;
  on : length l.cursor.left ≤ length l.fn.cursor.left;
}
