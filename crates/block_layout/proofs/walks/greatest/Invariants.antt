use Rattle.std.proofs.Common.{◌≡◌, take, slice_index}
use Rattle.block_layout.specs.Parts.{greatest}
use Rattle.block_layout.proofs.walks.greatest.Given as goal

abbrev pub invariant-loop-block : goal.invariant-loop-block
invariant-loop-block l = l.most ≡ greatest (λ k. slice_index l.weights k) (take l.block-index l.blocks)
