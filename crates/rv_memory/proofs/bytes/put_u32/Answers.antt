use Rattle.rv_memory.proofs.PatchedBytes.{number_patched}
use Rattle.rv_memory.proofs.bytes.put_u32.Goals as goal

pub returns : goal.returns
returns c = number_patched c.args.at 4 c.args.number c.args.bytes.now c.write_u32.new.buf c.requires c.write_u32.ensures
