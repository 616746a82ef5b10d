use Rattle.std.proofs.Common.{◌≡◌, take}
use Rattle.cover_lists.specs.CoverTree.{covers_of}
use Rattle.cover_lists.proofs.cover_tree.CoverTree.new.Given as goal

abbrev pub invariant-loop-cover : goal.invariant-loop-cover
invariant-loop-cover l = covers_of l.nodes.items ≡ take l.cover-index l.covers
