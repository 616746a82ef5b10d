use Rattle.std.proofs.Common.{slice_index}
use Rattle.block_layout.specs.Walks.{links_of}
use Rattle.block_layout.proofs.ChainLists.{AreHotTo}
use Rattle.block_layout.proofs.hot_chains.hot_chains.Given as goal

abbrev pub invariant-loop-head : goal.invariant-loop-head
invariant-loop-head l = AreHotTo (links_of l.links) (λ k. slice_index l.weights k) l.start l.head l.chains.items
