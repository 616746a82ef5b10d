use Rattle.std.proofs.Common.{arith}
use Rattle.std.proofs.lemmas.Grind.{common_steps}
use Rattle.rv_reloc.proofs.merged_runs.push_last.Goals as goal

pub returns-in_ok-push_back-clause-entries : goal.returns-in_ok-push_back-clause-entries
returns-in_ok-push_back-clause-entries c = grind (arith, common_steps)

pub returns-in_ok-push_back-clause-whole : goal.returns-in_ok-push_back-clause-whole
returns-in_ok-push_back-clause-whole c = grind (arith, common_steps)
