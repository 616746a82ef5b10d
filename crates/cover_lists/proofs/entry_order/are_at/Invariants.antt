use Rattle.std.proofs.Common.{◌≡◌, false, take}
use Rattle.cover_lists.specs.EntryOrders.{are_at}
use Rattle.cover_lists.proofs.entry_order.are_at.Given as goal

abbrev pub invariant-loop-run : goal.invariant-loop-run
invariant-loop-run l = are_at (take l.run-index l.runs) l.p ≡ false
