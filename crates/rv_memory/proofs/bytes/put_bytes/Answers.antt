use Rattle.std.proofs.Common.{arith}
use Rattle.std.proofs.lemmas.Grind.{common_steps}
use Rattle.rv_memory.proofs.PatchedBytes.{mid_patched}
use Rattle.rv_memory.proofs.bytes.put_bytes.Goals as goal

pub returns : goal.returns
returns c = grind (arith, common_steps, mid_patched)
