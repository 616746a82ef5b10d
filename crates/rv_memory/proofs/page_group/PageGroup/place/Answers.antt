use Rattle.std.proofs.Common.{arith}
use Rattle.std.proofs.lemmas.Grind.{get_or_default_zero, common_steps}
use Rattle.rv_memory.proofs.Ranks.{rank_most, beside_found, beside_missing}
use Rattle.rv_memory.proofs.page_group.PageGroup.place.Goals as goal

pub returns-then-above-eq0 : goal.returns-then-above-eq0
returns-then-above-eq0 c = grind (arith, common_steps, beside_missing)

pub returns-then-numbers-above : goal.returns-then-numbers-above
returns-then-numbers-above c = grind (arith, common_steps, beside_missing)

pub returns : goal.returns
returns c = grind (arith, common_steps, rank_most, get_or_default_zero, beside_found)
