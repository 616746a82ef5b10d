use Rattle.std.proofs.Common.{◌∙◌, ◌+◌, arith}
use Rattle.code_starts.proofs.FileBytes.{half-loaded}
use Rattle.code_starts.proofs.code.halfwords_at.Goals as goal

pub returns-clause-first : goal.returns-clause-first
returns-clause-first c =
    c.halfword.ensures
    ∙ half-loaded c.args.elf.now c.args.address 0 c.args.address c.args.bytes.now c.requires.bytes
    (omega arith) (omega arith)

pub returns-clause-second : goal.returns-clause-second
returns-clause-second c =
    c.halfword-2.ensures
    ∙ half-loaded c.args.elf.now c.args.address 2 (c.args.address + 2) c.args.bytes.now
    c.requires.bytes (omega arith) (omega arith)
