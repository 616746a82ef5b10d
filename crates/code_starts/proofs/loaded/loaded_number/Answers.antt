use Rattle.std.proofs.Common.{◌∙◌, ap, Some, arith}
use Rattle.code_starts.proofs.LoadedNumbers.{number-there}
use Rattle.code_starts.proofs.loaded.loaded_number.Goals as goal

pub returns-clause-value : goal.returns-clause-value
returns-clause-value c =
    ap Some c.first_number.ensures.value
    ∙ number-there c.args.elf.now c.args.address 0 c.args.size c.args.address c.bytes_from-bytes.result.now
    c.bytes_from-bytes.ensures (omega arith) (omega arith)
