use Rattle.std.proofs.Common.{arith}
use Rattle.code_starts.proofs.FileBytes.{from-drop}
use Rattle.code_starts.proofs.loaded.bytes_after.Goals as goal

pub returns : goal.returns
returns c = λ elf a are.
    from-drop elf a c.args.count c.min.result c.args.bytes.now c.split_at.result.1.now are
    (let least = c.min.ensures in omega arith)
    (let least = c.min.ensures in omega arith) c.split_at.ensures.back
