use Rattle.std.proofs.Common.{arith}
use Rattle.std.proofs.lemmas.Grind.{common_steps}
use Rattle.rv_memory.proofs.MemoryBytes.{all_may_none, all_may_next}
use Rattle.rv_memory.proofs.memory.Memory.may_each.Goals as goal

pub returns-then-not-may : goal.returns-then-not-may
returns-then-not-may c = grind (arith, common_steps, all_may_next)

pub loop-i-preserved : goal.loop-i-preserved
loop-i-preserved c = grind (arith, common_steps, all_may_next)

pub returns : goal.returns
returns c = grind (arith, common_steps, all_may_none)
