use Rattle.std.proofs.Common.{◌≡◌, ◌≤◌, ◌-◌, length}
use Rattle.line_rewrite.specs.Operations.{unknown_at}
use Rattle.line_rewrite.proofs.reading.unknown.Given as goal

abbrev pub invariant-loop : goal.invariant-loop
invariant-loop l = record {
  rest : unknown_at (l.operands - l.counter) l.cursor.left ≡ unknown_at l.operands l.fn.cursor.left;
  shorter : length l.cursor.left ≤ length l.fn.cursor.left;
}
