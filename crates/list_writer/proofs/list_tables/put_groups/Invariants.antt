use Rattle.std.proofs.Common.{◌≡◌, length}
use Rattle.list_writer.proofs.UnitSteps.{IsAt}
use Rattle.list_writer.proofs.list_tables.put_groups.Given as goal

abbrev pub invariant-loop-number : goal.invariant-loop-number
invariant-loop-number l =
    IsAt l.kind l.lists l.named l.units l.rest l.left l.number l.out.items l.names.items
    × (length l.units ≡ 0 → l.out.items ≡ l.fn.out.items)
