-- The ends of the texts of a section.
use Rattle.std.proofs.Common.{◌≡◌, ◌≤◌, ◌<◌, ◌+◌, ◌-◌, ◌==◌, ◌∙◌, ℕ, Bool, true, false, List, refl, sym, arith, length, drop, get_or}
use Rattle.std.proofs.Common.{length-drop, ⊎_elim}
use Rattle.std.specs.Prelude.{is_some, nat_lt}
use Rattle.std.specs.List.{position_or_len}
use Rattle.std.proofs.lemmas.Bool.{cases_lt, eqb-true, eq-eqb, false_from_ne_true}
use Rattle.std.proofs.lemmas.Bool.Decides.{nat_tests}
use Rattle.std.proofs.lemmas.List.Sums.{position_or_len_is, fails_before_first}
use Rattle.std.proofs.lemmas.Grind.{common_steps}
use Rattle.table_core.specs.Texts.{text_in}

abbrev first_zero : List ℕ → ℕ
first_zero xs = position_or_len (λ b. b == 0) xs

-- Whether a text is there, by the first zero byte.
text_some : (xs : List ℕ) (offset : ℕ) → is_some (text_in xs offset) ≡ nat_lt (first_zero (drop offset xs)) (length (drop offset xs))
text_some xs offset = split (nat_lt (first_zero (drop offset xs)) (length (drop offset xs))) refl
  where
    split : (b : Bool) → nat_lt (first_zero (drop offset xs)) (length (drop offset xs)) ≡ b → is_some (text_in xs offset) ≡ b
    split true e = rw e refl
    split false e = rw e refl

no_zero : (xs : List ℕ) (offset : ℕ) → ((k : ℕ) → offset ≤ k → k < length xs → get_or xs k 0 ≡ 0 → ⊥) →
    nat_lt (first_zero (drop offset xs)) (length (drop offset xs)) ≡ false
no_zero xs offset none =
    let n : length (drop offset xs) ≡ length xs - offset = length-drop offset xs in
    let e : first_zero (drop offset xs) ≡ length (drop offset xs) = position_or_len_is (λ b. b == 0) (drop offset xs)
    (length (drop offset xs)) 0 (omega arith)
    (λ k lt. false_from_ne_true _ (λ zero. none (offset + k) (omega arith) (omega arith) (moved k (eqb-true _ _ zero))))
    (λ lt. absurd (omega arith)) in
    grind (arith, nat_tests)
  where
    moved : (k : ℕ) → get_or (drop offset xs) k 0 ≡ 0 → get_or xs (offset + k) 0 ≡ 0
    moved k e = grind (arith, common_steps)

a_zero : (xs : List ℕ) (offset i : ℕ) → offset ≤ i → i < length xs → get_or xs i 0 ≡ 0 →
    nat_lt (first_zero (drop offset xs)) (length (drop offset xs)) ≡ true
a_zero xs offset i le lt zero =
    ⊎_elim
    (λ (h : first_zero (drop offset xs) < length (drop offset xs)). small h)
    (λ (h : length (drop offset xs) ≤ first_zero (drop offset xs)). absurd (not_far h))
    (cases_lt (first_zero (drop offset xs)) (length (drop offset xs)))
  where
    small : first_zero (drop offset xs) < length (drop offset xs) → nat_lt (first_zero (drop offset xs)) (length (drop offset xs)) ≡ true
    small h = grind (arith, nat_tests)

    here : get_or (drop offset xs) (i - offset) 0 ≡ 0
    here = grind (arith, common_steps)

    differ : (b : Bool) → b ≡ true → b ≡ false → ⊥
    differ b e f = cc

    not_far : length (drop offset xs) ≤ first_zero (drop offset xs) → ⊥
    not_far h =
        let n : length (drop offset xs) ≡ length xs - offset = length-drop offset xs in
        differ (get_or (drop offset xs) (i - offset) 0 == 0) (eq-eqb _ _ here)
        (fails_before_first (λ b. b == 0) (drop offset xs) (i - offset) 0 (omega arith))

-- The last zero byte ends the last text.
pub ends_some : (xs : List ℕ) (i : ℕ) → i < length xs → get_or xs i 0 ≡ 0 → ((k : ℕ) → i < k → k < length xs → get_or xs k 0 ≡ 0 → ⊥)
    → (offset : ℕ) → is_some (text_in xs offset) ≡ nat_lt offset (i + 1)
ends_some xs i lt zero after offset =
    text_some xs offset ∙ ⊎_elim
    (λ (h : offset < i + 1). a_zero xs offset i (omega arith) lt zero ∙ sym (below h))
    (λ (h : i + 1 ≤ offset). no_zero xs offset (λ k le within z. after k (omega arith) within z) ∙ sym (above h))
    (cases_lt offset (i + 1))
  where
    below : offset < i + 1 → nat_lt offset (i + 1) ≡ true
    below h = grind (arith, nat_tests)

    above : i + 1 ≤ offset → nat_lt offset (i + 1) ≡ false
    above h = grind (arith, nat_tests)

pub ends_none : (xs : List ℕ) → ((k : ℕ) → k < length xs → get_or xs k 0 ≡ 0 → ⊥) → (offset : ℕ) →
    is_some (text_in xs offset) ≡ nat_lt offset 0
ends_none xs none offset = text_some xs offset ∙ no_zero xs offset (λ k le within z. none k within z) ∙ sym below
  where
    below : nat_lt offset 0 ≡ false
    below = grind (arith, nat_tests)
