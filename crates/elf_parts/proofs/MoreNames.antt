-- A table of names that others were added to keeps its own, and has the new ones.
use Rattle.std.proofs.Common.{◌≡◌, ◌∙◌, sym, ap, ℕ, zero, suc, ◌≤◌, ◌<◌, List, [], ◌∷◌, ◌++◌, Bool, false, length, get_or, arith}
use Rattle.std.specs.Prelude.{take_while, not, ◌==◌, cond}
use Rattle.std.proofs.lemmas.List.Sums.{take_while-cons}
use Rattle.elf_image.specs.file.Sections.{text_of}

abbrev goes_on : ℕ → Bool
goes_on b = not (b == 0)

-- up to a zero byte that is there
front-same : (xs ys : List ℕ) (z : ℕ) → z < length xs → get_or xs z 0 ≡ 0 → take_while goes_on (xs ++ ys) ≡ take_while goes_on xs
front-same [] ys z below is = absurd (omega arith)
front-same (x ∷ xs) ys zero below is =
    let stops : goes_on x ≡ false = ap goes_on is in
    take_while-cons goes_on x (xs ++ ys) ∙ ap (λ (b : Bool). cond b (x ∷ take_while goes_on (xs ++ ys)) []) stops
    ∙ sym (take_while-cons goes_on x xs ∙ ap (λ (b : Bool). cond b (x ∷ take_while goes_on xs) []) stops)
front-same (x ∷ xs) ys (suc z) below is =
    let rest : take_while goes_on (xs ++ ys) ≡ take_while goes_on xs = front-same xs ys z (omega arith) is in
    take_while-cons goes_on x (xs ++ ys) ∙ ap (λ (t : List ℕ). cond (goes_on x) (x ∷ t) []) rest
    ∙ sym (take_while-cons goes_on x xs)

pub text_of-front : (xs ys : List ℕ) (i z : ℕ) → i ≤ z → z < length xs → get_or xs z 0 ≡ 0 → text_of (xs ++ ys) i ≡ text_of xs i
text_of-front xs ys zero z from below is = front-same xs ys z below is
text_of-front [] ys (suc i) z from below is = absurd (omega arith)
text_of-front (x ∷ xs) ys (suc i) zero from below is = absurd (omega arith)
text_of-front (x ∷ xs) ys (suc i) (suc z) from below is = text_of-front xs ys i z (omega arith) (omega arith) is
