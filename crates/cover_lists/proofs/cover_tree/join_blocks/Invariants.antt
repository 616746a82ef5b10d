use Rattle.std.proofs.Common.{◌≡◌, drop}
use Rattle.cover_lists.specs.CoverTree.{covers_of, AreBlocks}
use Rattle.cover_lists.proofs.cover_tree.join_blocks.Given as goal

abbrev pub invariant-loop-index : goal.invariant-loop-index
invariant-loop-index l = (covers_of l.nodes ≡ covers_of l.fn.nodes) × AreBlocks (drop l.index l.nodes)
