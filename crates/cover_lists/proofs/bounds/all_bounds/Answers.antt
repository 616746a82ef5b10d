use Rattle.std.proofs.Common.{arith}
use Rattle.std.proofs.lemmas.Grind.{common_steps}
use Rattle.cover_lists.proofs.bounds.all_bounds.Goals as goal

pub loop-cover-preserved : goal.loop-cover-preserved
loop-cover-preserved c = grind (arith, common_steps)

pub returns : goal.returns
returns c = grind (arith, common_steps)
