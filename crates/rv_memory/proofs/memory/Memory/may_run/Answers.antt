use Rattle.std.proofs.Common.{arith}
use Rattle.std.proofs.lemmas.Grind.{common_steps}
use Rattle.rv_memory.proofs.AddressRuns.{or_first}
use Rattle.rv_code.proofs.machine.RelatedMemory.{all_may_implied}
use Rattle.rv_memory.proofs.memory.Memory.may_run.Goals as goal

pub returns-else-in_data : goal.returns-else-in_data
returns-else-in_data c = grind (arith, common_steps, all_may_implied, or_first)

pub returns-else-in_data-2 : goal.returns-else-in_data-2
returns-else-in_data-2 c = grind (arith, common_steps, all_may_implied, or_first)
