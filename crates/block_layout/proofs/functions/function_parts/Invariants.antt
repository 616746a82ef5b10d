use Rattle.std.proofs.Common.{slice_index}
use Rattle.block_layout.specs.HotAndCold.{AreSplitTo, IsFirstOf}
use Rattle.block_layout.specs.Walks.{links_of}
use Rattle.block_layout.proofs.functions.function_parts.Given as goal

abbrev pub invariant-loop-func : goal.invariant-loop-func
invariant-loop-func l =
    IsFirstOf l.blocks l.func l.start
    × AreSplitTo l.blocks (λ k. slice_index l.weights k) (links_of l.links) l.func (record { hot = l.hot; cold = l.cold })
