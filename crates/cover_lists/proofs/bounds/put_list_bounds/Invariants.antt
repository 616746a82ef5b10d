use Rattle.std.proofs.Common.{◌≡◌, ◌++◌, take}
use Rattle.cover_lists.specs.KeptLists.{list_bounds}
use Rattle.cover_lists.proofs.bounds.put_list_bounds.Given as goal

abbrev pub invariant-loop-list : goal.invariant-loop-list
invariant-loop-list l = l.bounds.items ≡ l.fn.bounds.items ++ list_bounds (take l.list-index l.lists)
