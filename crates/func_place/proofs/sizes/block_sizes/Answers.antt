use Rattle.std.proofs.Common.{arith}
use Rattle.std.proofs.lemmas.Grind.{common_steps}
use Rattle.func_place.proofs.sizes.block_sizes.Goals as goal

pub loop-block-preserved : goal.loop-block-preserved
loop-block-preserved c = grind (arith, common_steps)

pub returns-clause-sizes : goal.returns-clause-sizes
returns-clause-sizes c = grind (arith, common_steps)
