use Rattle.std.proofs.Common.{arith}
use Rattle.std.proofs.lemmas.Grind.{common_steps}
use Rattle.flow_infer.proofs.nodes.sum_flows.Goals as goal

pub loop-link-init : goal.loop-link-init
loop-link-init c = grind (arith, common_steps)

pub loop-link-preserved : goal.loop-link-preserved
loop-link-preserved c = grind (arith, common_steps)

pub returns-clause-into : goal.returns-clause-into
returns-clause-into c = grind (arith, common_steps)

pub returns-clause-out_of : goal.returns-clause-out_of
returns-clause-out_of c = grind (arith, common_steps)
