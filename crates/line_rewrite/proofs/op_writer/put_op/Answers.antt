use Rattle.std.proofs.Common.{arith}
use Rattle.std.proofs.lemmas.Grind.{common_steps}
use Rattle.line_rewrite.proofs.op_writer.put_op.Goals as goal

pub returns-in_ok-put_bytes-in-FixedAdvancePc : goal.returns-in_ok-put_bytes-in-FixedAdvancePc
returns-in_ok-put_bytes-in-FixedAdvancePc c = grind (arith, common_steps)

pub returns-in_ok-put_bytes-in-SetDiscriminator : goal.returns-in_ok-put_bytes-in-SetDiscriminator
returns-in_ok-put_bytes-in-SetDiscriminator c = grind (arith, common_steps)
