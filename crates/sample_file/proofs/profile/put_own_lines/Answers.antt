use Rattle.std.proofs.Common.{arith}
use Rattle.std.proofs.lemmas.Grind.{common_steps}
use Rattle.sample_file.proofs.profile.put_own_lines.Goals as goal

pub returns-in_ok-put_edge-2 : goal.returns-in_ok-put_edge-2
returns-in_ok-put_edge-2 c = grind (arith, common_steps)

pub returns-in_ok-put_edge-4 : goal.returns-in_ok-put_edge-4
returns-in_ok-put_edge-4 c = grind (arith, common_steps)
