use Rattle.std.proofs.Common.{◌≡◌, ◌++◌, take}
use Rattle.std.specs.Prelude.{flat_map}
use Rattle.cover_lists.specs.EntryOrders.{front, rest}
use Rattle.cover_lists.proofs.entry_order.entry_first.Given as goal

abbrev pub invariant-loop-run : goal.invariant-loop-run
invariant-loop-run l = l.ordered.items ≡ flat_map (front l.at) (take l.run-index l.runs)

abbrev pub invariant-loop-run-2 : goal.invariant-loop-run-2
invariant-loop-run-2 l = l.ordered.items ≡ flat_map (front l.at) l.runs ++ flat_map (rest l.at) (take l.run-index l.runs)
