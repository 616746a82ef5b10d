use Rattle.std.proofs.Common.{arith}
use Rattle.std.proofs.lemmas.Grind.{common_steps}
use Rattle.rv_reloc.proofs.index.has_key_at.Goals as goal

pub returns-then-records-index : goal.returns-then-records-index
returns-then-records-index c = grind (arith, common_steps)
