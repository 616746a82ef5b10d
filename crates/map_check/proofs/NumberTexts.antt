-- The text of a number has no zero before another digit.
use Rattle.std.proofs.Common.{◌≡◌, ◌≢◌, ◌<◌, ◌^◌, ◌∙◌, ℕ, false, arith, ap, ⊎_elim}
use Rattle.std.specs.Prelude.{decimal}
use Rattle.std.proofs.lemmas.Bool.{cases_eq}
use Rattle.std.proofs.lemmas.Fmt.{decimal_digit, first_decimal}
use Rattle.rb_bytes.specs.Text.{hexadecimal}
use Rattle.rb_bytes.proofs.NumberTexts.{zero_text, positive, no_zero_first, hex_start}
use Rattle.map_check.specs.internal.LineNumbers.{has_leading_zero}

pub hex_leads : (n : ℕ) → n < 2 ^ 64 → has_leading_zero (hexadecimal n) ≡ false
hex_leads n fits = ⊎_elim
    (λ (none : n ≡ 0). ap (λ m. has_leading_zero (hexadecimal m)) none ∙ ap has_leading_zero zero_text)
    (λ (some : n ≢ 0). hex_start n fits some) (cases_eq n 0)

pub decimal_leads : (n : ℕ) → n < 2 ^ 64 → has_leading_zero (decimal n) ≡ false
decimal_leads n fits = ⊎_elim
    (λ (none : n ≡ 0). ap (λ m. has_leading_zero (decimal m)) none ∙ ap has_leading_zero (decimal_digit 0 (omega arith)))
    (λ (some : n ≢ 0). let above = first_decimal n (positive n some) fits in
    no_zero_first (decimal n) (λ e. omega (arith, above, e))) (cases_eq n 0)
