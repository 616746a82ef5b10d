use Rattle.std.proofs.Common.{◌≡◌, ◌≤◌, take, map}
use Rattle.std.specs.Prelude.{All, ◌^◌}
use Rattle.rv_code.specs.layout.WorstSizes.{worst_size_of_block}
use Rattle.func_place.proofs.sizes.block_sizes.Given as goal

abbrev pub invariant-loop-block : goal.invariant-loop-block
invariant-loop-block l =
    (l.sizes.items ≡ map (worst_size_of_block l.funcs) (take l.block-index l.blocks)) × All (λ size. size ≤ 2 ^ 67) l.sizes.items
