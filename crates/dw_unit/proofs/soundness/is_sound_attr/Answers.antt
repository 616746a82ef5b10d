use Rattle.std.proofs.Common.{arith}
use Rattle.std.proofs.lemmas.Grind.{common_steps}
use Rattle.dw_unit.proofs.soundness.is_sound_attr.Goals as goal

pub returns-then-has_table : goal.returns-then-has_table
returns-then-has_table c = grind (arith, common_steps)
