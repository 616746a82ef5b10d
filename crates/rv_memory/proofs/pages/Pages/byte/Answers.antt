use Rattle.std.proofs.Common.{arith}
use Rattle.std.proofs.lemmas.Grind.{get_or_default_zero, common_steps}
use Rattle.rv_memory.proofs.PageBytes.{page_byte-some, page_byte-none, in_pages}
use Rattle.rv_memory.proofs.pages.Pages.byte.Goals as goal

pub returns : goal.returns
returns c = grind (arith, common_steps, in_pages, get_or_default_zero, page_byte-some)

pub returns-in_err-place : goal.returns-in_err-place
returns-in_err-place c = grind (arith, common_steps, page_byte-none)
