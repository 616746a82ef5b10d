use Rattle.std.proofs.Common.{arith}
use Rattle.std.proofs.lemmas.Grind.{common_steps}
use Rattle.cfi_rows.proofs.opcodes.frame.frame.Goals as goal

pub returns-in_ok-block-in_default-clause-ok : goal.returns-in_ok-block-in_default-clause-ok
returns-in_ok-block-in_default-clause-ok c = grind (arith, common_steps)
