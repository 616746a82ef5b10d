use Rattle.std.proofs.Common.{arith}
use Rattle.std.proofs.lemmas.Grind.{common_steps}
use Rattle.rv_memory.proofs.MemoryBytes.{low_bytes_of}
use Rattle.rv_memory.proofs.bytes.put_front.Goals as goal

pub returns : goal.returns
returns c = grind (arith, common_steps, low_bytes_of)
