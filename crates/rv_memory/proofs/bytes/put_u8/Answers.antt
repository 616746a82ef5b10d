use Rattle.rv_memory.proofs.PatchedBytes.{set_patched}
use Rattle.rv_memory.proofs.bytes.put_u8.Goals as goal

pub returns : goal.returns
returns c = set_patched c.args.at c.args.number c.args.bytes.now c.requires
