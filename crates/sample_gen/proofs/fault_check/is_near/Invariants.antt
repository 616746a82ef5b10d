use Rattle.std.proofs.Common.{◌≡◌, ◌+◌, take}
use Rattle.std.specs.List.{sum_by}
use Rattle.rv_code.specs.layout.WorstSizes.{near_limit, worst_size_of_block}
use Rattle.sample_gen.proofs.fault_check.is_near.Given as goal

-- the rest of the limit after the blocks so far
abbrev pub invariant-loop-block : goal.invariant-loop-block
invariant-loop-block l = l.room + sum_by (worst_size_of_block l.funcs) (take l.block-index l.blocks) ≡ near_limit
