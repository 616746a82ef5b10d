use Rattle.std.proofs.Common.{arith}
use Rattle.std.proofs.lemmas.Grind.{common_steps}
use Rattle.rv_memory.proofs.Tables.{table_address-is}
use Rattle.rv_memory.proofs.stack.table_address.Goals as goal

pub returns-in-Some : goal.returns-in-Some
returns-in-Some c = grind (arith, common_steps, table_address-is)

pub returns-in-None : goal.returns-in-None
returns-in-None c = grind (arith, common_steps, table_address-is)
