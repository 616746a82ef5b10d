use Rattle.std.proofs.Common.{◌≡◌, ◌++◌, ◌∷◌, ℕ, List, subst, sym, ◌∙◌, ◌<◌, ◌^◌}
use Rattle.rb_bytes.specs.Text.{hexadecimal}
use Rattle.map_check.proofs.LineTexts.{Lacks, lacks_from, lacks_itself, hex_lacks, in_none, one_split}
use Rattle.map_check.proofs.numbers.hex_before.Goals as goal

pub returns-in_err-number-clause-none : goal.returns-in_err-number-clause-none
returns-in_err-number-clause-none c =
    let none : (n : ℕ) (rest : List ℕ) → n < 2 ^ 64 → c.args.text.now ≡ hexadecimal n ++ c.args.end ∷ rest → ⊥ =
    λ n rest fits same.
    let one = one_split c.args.end c.in_ok-digits.digits.now c.in_ok-digits.rest.now (hexadecimal n) rest
    (lacks_from c.args.end c.in_ok-digits.digits.now c.in_ok-digits.ensures.first) (hex_lacks c.args.end n c.requires fits)
    (sym c.in_ok-digits.ensures.parts ∙ same) in
    c.in_err-number.ensures.none n fits one.before in
    in_none _ _ none

pub returns-in_err-digits-clause-none : goal.returns-in_err-digits-clause-none
returns-in_err-digits-clause-none c =
    let none : (n : ℕ) (rest : List ℕ) → n < 2 ^ 64 → c.args.text.now ≡ hexadecimal n ++ c.args.end ∷ rest → ⊥ =
    λ n rest fits same.
    lacks_itself c.args.end (hexadecimal n) rest
    (subst (Lacks c.args.end) same (lacks_from c.args.end c.args.text.now c.in_err-digits.ensures.none)) in
    in_none _ _ none
