use Rattle.std.proofs.Common.{◌≡◌, ℕ, sym, ◌∙◌, ◌<◌, ◌^◌, arith}
use Rattle.std.specs.Prelude.{decimal}
use Rattle.map_check.proofs.LineTexts.{in_none}
use Rattle.map_check.proofs.NumberTexts.{decimal_leads}
use Rattle.map_check.proofs.NumeralTexts.{leads_not, decimal_text, decimal_none, decimal_other}
use Rattle.map_check.proofs.numbers.byte_of.Goals as goal

pub returns-then-has_leading_zero-clause-none : goal.returns-then-has_leading_zero-clause-none
returns-then-has_leading_zero-clause-none c =
    λ n fits same. let wide : n < 2 ^ 64 = omega arith in
    leads_not _ _ _ c.has_leading_zero.ensures c.if-has_leading_zero.true (decimal_leads n wide) same

pub returns-in_err-number-clause-none : goal.returns-in_err-number-clause-none
returns-in_err-number-clause-none c =
    let none : (n : ℕ) → n < 256 → c.args.digits.now ≡ decimal n → ⊥ = decimal_none _ c.in_err-number.ensures in
    in_none _ _ none

pub returns-then-number-gt255-clause-none : goal.returns-then-number-gt255-clause-none
returns-then-number-gt255-clause-none c = decimal_other _ _ c.in_ok-number.ensures c.if-number-gt255.true

pub returns-clause-some : goal.returns-clause-some
returns-clause-some c =
    decimal_text _ _ (sym c.has_leading_zero.ensures ∙ c.if-has_leading_zero.false) c.in_ok-number.ensures
