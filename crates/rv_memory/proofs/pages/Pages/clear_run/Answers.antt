use Rattle.std.proofs.Common.{arith}
use Rattle.std.proofs.lemmas.Bool.{cases_lt, and_parts, leb-true, ltb-true, false_from_ne_true}
use Rattle.std.proofs.lemmas.Grind.{common_steps}
use Rattle.rv_memory.proofs.pages.Pages.clear_run.Goals as goal

pub returns : goal.returns
returns c = grind (arith, common_steps, cases_lt, false_from_ne_true, and_parts, leb-true, ltb-true)
