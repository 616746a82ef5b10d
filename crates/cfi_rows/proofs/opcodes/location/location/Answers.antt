use Rattle.std.proofs.Common.{arith}
use Rattle.std.proofs.lemmas.Grind.{common_steps}
use Rattle.cfi_rows.proofs.opcodes.location.location.Goals as goal

pub returns-in_ok-units-in_default-clause-ok : goal.returns-in_ok-units-in_default-clause-ok
returns-in_ok-units-in_default-clause-ok c = grind arith

pub returns-in_ok-units-in_default-clause-err : goal.returns-in_ok-units-in_default-clause-err
returns-in_ok-units-in_default-clause-err c = grind (arith, common_steps)
