use Rattle.std.proofs.Common.{arith}
use Rattle.std.proofs.lemmas.Grind.{common_steps}
use Rattle.inline_frames.proofs.follow.all_followed.Goals as goal

pub loop-naming-preserved : goal.loop-naming-preserved
loop-naming-preserved c = grind (arith, common_steps)

pub returns : goal.returns
returns c = grind (arith, common_steps)
