use Rattle.std.proofs.Common.{◌≡◌, refl, sym, ◌∙◌, ◌<◌, ◌++◌, ◌∷◌, ◌^◌, ℕ, List, arith}
use Rattle.std.proofs.lemmas.Grind.{common_steps}
use Rattle.std.specs.Prelude.{decimal}
use Rattle.rb_bytes.specs.Text.{hexadecimal}
use Rattle.addr_map.specs.declared.span.Span.{Span}
use Rattle.addr_map.specs.MapText.{span_line}
use Rattle.map_check.specs.MapReading.{FitsLine}
use Rattle.map_check.proofs.LineTexts.{hex_lacks, decimal_lacks, one_split, line_spelled, in_none}
use Rattle.map_check.proofs.text.first_line.Goals as goal

pub returns-in_err-len-clause-none : goal.returns-in_err-len-clause-none
returns-in_err-len-clause-none c =
    let none : (s : Span) (rest : List ℕ) → FitsLine s → c.args.text.now ≡ span_line s ++ rest → ⊥ = λ s rest fits same.
    let out = one_split 32 (hexadecimal c.in_ok-out.out) c.in_ok-out.after.now (hexadecimal s.out)
    (decimal s.len ++ 32 ∷ (hexadecimal s.input ++ 10 ∷ rest)) (hex_lacks 32 c.in_ok-out.out refl c.in_ok-out.ensures.small)
    (hex_lacks 32 s.out refl fits.out) (sym c.in_ok-out.ensures.some ∙ same ∙ line_spelled s rest) in
    c.in_err-len.ensures.none s.len (hexadecimal s.input ++ 10 ∷ rest) fits.len out.after in
    in_none _ _ none

pub returns-in_err-input-clause-none : goal.returns-in_err-input-clause-none
returns-in_err-input-clause-none c =
    let small = c.in_ok-len.ensures.small in
    let wide : c.in_ok-len.len < 2 ^ 64 = omega (arith, small) in
    let none : (s : Span) (rest : List ℕ) → FitsLine s → c.args.text.now ≡ span_line s ++ rest → ⊥ = λ s rest fits same.
    let wide_s : s.len < 2 ^ 64 = omega (arith, fits.len) in
    let out = one_split 32 (hexadecimal c.in_ok-out.out) c.in_ok-out.after.now (hexadecimal s.out)
    (decimal s.len ++ 32 ∷ (hexadecimal s.input ++ 10 ∷ rest)) (hex_lacks 32 c.in_ok-out.out refl c.in_ok-out.ensures.small)
    (hex_lacks 32 s.out refl fits.out) (sym c.in_ok-out.ensures.some ∙ same ∙ line_spelled s rest) in
    let len = one_split 32 (decimal c.in_ok-len.len) c.in_ok-len.last.now (decimal s.len)
    (hexadecimal s.input ++ 10 ∷ rest) (decimal_lacks 32 c.in_ok-len.len refl wide)
    (decimal_lacks 32 s.len refl wide_s) (sym c.in_ok-len.ensures.some ∙ out.after) in
    c.in_err-input.ensures.none s.input rest fits.input len.after in
    in_none _ _ none

pub returns-in_err-out-clause-none : goal.returns-in_err-out-clause-none
returns-in_err-out-clause-none c = grind (arith, common_steps)

pub returns-clause-some : goal.returns-clause-some
returns-clause-some c = grind (arith, common_steps)
