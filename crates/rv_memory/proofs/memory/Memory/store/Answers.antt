use Rattle.std.proofs.Common.{arith}
use Rattle.rv_memory.proofs.MemoryBytes.{low_bytes_of, put_same}
use Rattle.std.proofs.lemmas.Grind.{common_steps}
use Rattle.rv_memory.proofs.CodeKept.{writable-keeps}
use Rattle.rv_memory.proofs.memory.Memory.store.Goals as goal

pub returns-clause-written : goal.returns-clause-written
returns-clause-written c = grind (arith, common_steps, low_bytes_of, put_same)

pub write-requires : goal.write-requires
write-requires c = grind (arith, common_steps, writable-keeps)
