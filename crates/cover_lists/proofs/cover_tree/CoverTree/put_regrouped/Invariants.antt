use Rattle.std.proofs.Common.{◌≡◌, ◌++◌, map, take}
use Rattle.cover_lists.specs.CoverTree.{covers_of, regrouped}
use Rattle.cover_lists.proofs.cover_tree.CoverTree.put_regrouped.Given as goal

abbrev pub invariant-loop-node : goal.invariant-loop-node
invariant-loop-node l = l.covers.items ≡ l.fn.covers.items ++ map (regrouped l.group) (covers_of (take l.node-index l.node-items))
