use Rattle.std.proofs.Common.{arith}
use Rattle.code_starts.proofs.FileBytes.{bytes-of}
use Rattle.code_starts.proofs.halves.bytes_of.Goals as goal

pub returns : goal.returns
returns c =
    bytes-of c.args.elf.now c.args.part.now c.bytes_from-bytes.result.now c.saturating_sub-size.result
    c.bytes_from-bytes.ensures c.saturating_sub-size.ensures (omega arith)
