-- Stretches of new code, span by span.
use Rattle.std.proofs.Common.{◌≡◌, ◌∙◌, ◌+◌, ◌<◌, ◌≤◌, ◌∷◌, [], ℕ, zero, suc, Bool, true, false, List, Some, refl, sym, ap, arith, length}
use Rattle.std.proofs.Common.{filter, get_or}
use Rattle.std.specs.Prelude.{if◌then◌else◌, nat_le, option_and_then, nat_lt, ◌&&◌, None}
use Rattle.std.proofs.lemmas.Bool.Decides.{nat_tests}
use Rattle.answer_runs.specs.AnswerRuns.{answer_over}
use Rattle.cover_lists.specs.Stretches.{bounds_before}

at_most : (x a : ℕ) → x ≤ a → nat_le x a ≡ true
at_most x a h = grind (arith, nat_tests)

past : (x a : ℕ) → a < x → nat_le x a ≡ false
past x a h = grind (arith, nat_tests)

-- The bounds that are at most an address are before the others.
pub counted : (bs : List ℕ) (m a : ℕ) → ((k d : ℕ) → k < m → get_or bs k d ≤ a) → ((k d : ℕ) → m ≤ k → k < length bs → a < get_or bs k d) →
    m ≡ bounds_before bs a
counted [] zero a low high = refl
counted [] (suc m) a low high = let l : a + 1 ≤ a = low 0 (a + 1) (omega arith) in absurd (omega arith)
counted (b ∷ bs) zero a low high =
    let h : a < b = high 0 0 (omega arith) (omega arith) in
    counted bs zero a (λ k d l. absurd (omega arith)) (λ k d l g. high (suc k) d (omega arith) (omega arith))
    ∙ sym (ap (λ (c : Bool). length (if c then b ∷ filter (λ x. nat_le x a) bs else filter (λ x. nat_le x a) bs)) (past b a h))
counted (b ∷ bs) (suc m) a low high =
    let l : b ≤ a = low 0 0 (omega arith) in
    ap suc (counted bs m a (λ k d l. low (suc k) d (omega arith)) (λ k d l g. high (suc k) d (omega arith) (omega arith)))
    ∙ sym (ap (λ (c : Bool). length (if c then b ∷ filter (λ x. nat_le x a) bs else filter (λ x. nat_le x a) bs)) (at_most b a l))

-- The result for an answer over a stretch.
pub over_said : {A B : Type 0} (f : A → B) (start len : ℕ) (x : A) (p : ℕ) →
    answer_over start len (f x) p ≡ option_and_then (λ y. Some (f y)) (answer_over start len x p)
over_said {A} {B} f start len x p = step (nat_le start p && nat_lt p (start + len))
  where
    step : (b : Bool) → (if b then Some (f x) else None) ≡ option_and_then (λ (y : A). Some (f y)) (if b then Some x else None)
    step true = refl
    step false = refl
