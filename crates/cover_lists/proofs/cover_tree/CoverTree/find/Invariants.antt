use Rattle.std.proofs.Common.{◌≡◌, ◌++◌, ◌-◌, drop, length}
use Rattle.cover_lists.specs.CoverTree.{covers_of}
use Rattle.cover_lists.proofs.CoverTreeFacts.{groups_in}
use Rattle.cover_lists.proofs.cover_tree.CoverTree.find.Given as goal

abbrev pub invariant-loop-index : goal.invariant-loop-index
invariant-loop-index l =
    l.groups.items ++ groups_in l.a (drop l.index (covers_of l.self-inside.nodes.items)) ≡ l.fn.groups.items
    ++ groups_in l.a (covers_of l.self-inside.nodes.items)

abbrev pub decreases-loop-index : goal.decreases-loop-index
decreases-loop-index l = length l.self-inside.nodes.items - l.index
