use Rattle.std.proofs.Common.{◌≡◌, ◌++◌, ◌∷◌, ℕ, List, subst, sym, ◌∙◌, ◌<◌, ◌^◌, arith}
use Rattle.std.specs.Prelude.{decimal}
use Rattle.map_check.proofs.LineTexts.{Lacks, lacks_from, lacks_itself, decimal_lacks, in_none, one_split}
use Rattle.map_check.proofs.numbers.byte_before.Goals as goal

pub returns-in_err-number-clause-none : goal.returns-in_err-number-clause-none
returns-in_err-number-clause-none c =
    let none : (n : ℕ) (rest : List ℕ) → n < 256 → c.args.text.now ≡ decimal n ++ c.args.end ∷ rest → ⊥ = λ n rest fits same.
    let wide : n < 2 ^ 64 = omega arith in
    let one = one_split c.args.end c.in_ok-digits.digits.now c.in_ok-digits.rest.now (decimal n) rest
    (lacks_from c.args.end c.in_ok-digits.digits.now c.in_ok-digits.ensures.first) (decimal_lacks c.args.end n c.requires wide)
    (sym c.in_ok-digits.ensures.parts ∙ same) in
    c.in_err-number.ensures.none n fits one.before in
    in_none _ _ none

pub returns-in_err-digits-clause-none : goal.returns-in_err-digits-clause-none
returns-in_err-digits-clause-none c =
    let none : (n : ℕ) (rest : List ℕ) → n < 256 → c.args.text.now ≡ decimal n ++ c.args.end ∷ rest → ⊥ = λ n rest fits same.
    lacks_itself c.args.end (decimal n) rest
    (subst (Lacks c.args.end) same (lacks_from c.args.end c.args.text.now c.in_err-digits.ensures.none)) in
    in_none _ _ none
