use Rattle.std.proofs.Common.{◌∙◌, arith}
use Rattle.code_starts.proofs.FileBytes.{half-loaded}
use Rattle.code_starts.proofs.code.halfword_at.Goals as goal

pub returns : goal.returns
returns c =
    c.halfword-2.ensures
    ∙ half-loaded c.args.elf.now c.args.address 0 c.args.address c.bytes_from-bytes.result.now c.bytes_from-bytes.ensures
    (omega arith) (omega arith)
