use Rattle.std.proofs.Common.{◌≡◌, map, take}
use Rattle.rv_code.specs.layout.Blocks.{block_start}
use Rattle.rv_code.proofs.functions.block_starts.Given as goal

abbrev pub invariant-loop-block : goal.invariant-loop-block
invariant-loop-block l = l.starts.items ≡ map (block_start l.funcs) (take l.block-index l.blocks)
