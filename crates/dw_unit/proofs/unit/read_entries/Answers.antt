use Rattle.std.proofs.Common.{arith}
use Rattle.std.proofs.lemmas.Grind.{common_steps}
use Rattle.dw_unit.proofs.unit.read_entries.Goals as goal

pub entries-preserved : goal.entries-preserved
entries-preserved c = grind (arith, common_steps)
