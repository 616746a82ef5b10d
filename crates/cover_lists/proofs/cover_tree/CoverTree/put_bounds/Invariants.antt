use Rattle.std.proofs.Common.{◌≡◌, ◌++◌, take}
use Rattle.cover_lists.specs.Bounds.{bounds_in}
use Rattle.cover_lists.specs.CoverTree.{covers_of}
use Rattle.cover_lists.proofs.cover_tree.CoverTree.put_bounds.Given as goal

abbrev pub invariant-loop-node : goal.invariant-loop-node
invariant-loop-node l = l.bounds.items ≡ l.fn.bounds.items ++ bounds_in (covers_of (take l.node-index l.node-items))
