use Rattle.std.proofs.Common.{arith}
use Rattle.std.proofs.lemmas.Grind.{common_steps}
use Rattle.rv_memory.proofs.PatchedBytes.{whole_patched}
use Rattle.rv_memory.proofs.bytes.put_u64.Goals as goal

pub returns : goal.returns
returns c = grind (arith, common_steps, whole_patched)
