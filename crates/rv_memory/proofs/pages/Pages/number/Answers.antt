use Rattle.std.proofs.Common.{◌≡◌, ℕ, sym, arith, Some, None, Option, subst}
use Rattle.std.specs.Prelude.{IfSome}
use Rattle.std.proofs.lemmas.Grind.{common_steps}
use Rattle.rv_memory.proofs.PageBytes.{number-like, page_byte-some, page_byte-none}
use Rattle.rv_memory.proofs.pages.Pages.number.Goals as goal

for_some : (P : ℕ → Type 0) (r : Option ℕ) (n : ℕ) → IfSome r (λ m. m ≡ n) → P n → IfSome r P
for_some P None n is p = tt
for_some P (Some m) n is p = subst P (sym is) p

pub returns-clause-value : goal.returns-clause-value
returns-clause-value c = grind (arith, common_steps, for_some, number-like)

pub returns-clause-there : goal.returns-clause-there
returns-clause-there c = grind (arith, common_steps, page_byte-some)

pub returns-in_err-place-clause-there : goal.returns-in_err-place-clause-there
returns-in_err-place-clause-there c = grind (arith, common_steps, page_byte-none)
