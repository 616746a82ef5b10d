use Rattle.std.proofs.Common.{arith}
use Rattle.rv_memory.proofs.CodeKept.{writable-keeps}
use Rattle.std.proofs.lemmas.Grind.{common_steps}
use Rattle.rv_memory.proofs.MemoryBytes.{put_same}
use Rattle.rv_memory.proofs.memory.Memory.write.Goals as goal

pub overwrite-requires-clause-writable : goal.overwrite-requires-clause-writable
overwrite-requires-clause-writable c = grind (arith, common_steps, writable-keeps)

pub returns-clause-written : goal.returns-clause-written
returns-clause-written c = grind (arith, common_steps, put_same)
