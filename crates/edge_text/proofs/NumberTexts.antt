-- The hexadecimal text of a number is read as this number by a reader that accepts no leading zeros.
use Rattle.std.proofs.Common.{◌≡◌, ◌≢◌, ◌<◌, ◌^◌, ◌∙◌, ℕ, Some, None, ap, sym, cond, ⊎_elim}
use Rattle.std.proofs.lemmas.Bool.{cases_eq}
use Rattle.rb_bytes.specs.Text.{hexadecimal, hex_number}
use Rattle.rb_bytes.proofs.NumberTexts.{zero_text, hex_start, hex_read}
use Rattle.edge_profile.specs.Grammar.{short_hex_number}

pub short_hex_read : (n : ℕ) → n < 2 ^ 64 → short_hex_number (hexadecimal n) ≡ Some n
short_hex_read n fits = ⊎_elim
    (λ (none : n ≡ 0). ap (λ m. short_hex_number (hexadecimal m)) none ∙ ap short_hex_number zero_text ∙ ap Some (sym none))
    (λ (some : n ≢ 0). ap (λ b. cond b None (hex_number (hexadecimal n))) (hex_start n fits some) ∙ hex_read n fits)
    (cases_eq n 0)
