use Rattle.std.proofs.Common.{◌≡◌, take}
use Rattle.dw_unit.specs.ToldLists.{told_once}
use Rattle.dw_unit.proofs.indexed_table.all_named_once.Given as goal

abbrev pub invariant-loop-declaration : goal.invariant-loop-declaration
invariant-loop-declaration l = l.once.items ≡ told_once (take l.declaration-index l.list)
