-- Ascending numbers, and membership of numbers in a list.
use Rattle.std.proofs.Common.{◌≡◌, ◌≢◌, ◌∙◌, ◌<◌, ◌≤◌, ◌+◌, ⊎_elim, ℕ, zero, suc, Bool, true, false, List, [], ◌∷◌}
use Rattle.std.proofs.Common.{refl, sym, ap, subst, arith, length, get_or, eqb}
use Rattle.std.specs.Prelude.{slice_index, ⊤, ◌==◌, ◌||◌, filter, Contains, IsPermutation}
use Rattle.std.specs.List.{dedup, list_any, range_with_len}
use Rattle.std.specs.List.Sorted.{IsStrictlyIncreasing}
use Rattle.std.proofs.lemmas.Bool.{cases_eq, eq-eqb, ne_eqb, eqb-true}
use Rattle.std.proofs.lemmas.List.Kept.{Contains-dedup_nat, Contains-from_dedup}
use Rattle.std.proofs.lemmas.List.Sorted.{Contains-permutation, IsPermutation-sym}
use Rattle.rb_bytes.proofs.Members.{Contains-nil, Contains-cons_cases, Contains-there}
use Rattle.rb_bytes.proofs.Tests.{bool_same}

abbrev pub Ascends : ℕ → List ℕ → Type 0
Ascends a [] = ⊤
Ascends a (x ∷ xs) = (a ≤ x) × Ascends (x + 1) xs

abbrev pub AreBelow : ℕ → List ℕ → Type 0
AreBelow n [] = ⊤
AreBelow n (x ∷ xs) = (x < n) × AreBelow n xs

abbrev pub among : ℕ → List ℕ → Bool
among q xs = list_any (λ o. o == q) xs

lacks_less : (a b : ℕ) (xs : List ℕ) → a < b → Ascends b xs → among a xs ≡ false
lacks_less a b [] h up = refl
lacks_less a b (x ∷ xs) h up =
    let ne : x ≢ a = let g = up.0 in λ e. absurd (omega arith) in
    let g = up.0 in rw (ne_eqb x a ne) (lacks_less a (x + 1) xs (omega arith) up.1)

pub later_up : (a b : ℕ) (xs : List ℕ) → b ≤ a → Ascends a xs → Ascends b xs
later_up a b [] h up = tt
later_up a b (x ∷ xs) h up = (let g = up.0 in omega arith, up.1)

-- Ascending numbers are the members of a range that are in the list.
pub range_filter : (p : ℕ → Bool) (n a : ℕ) (xs : List ℕ) → Ascends a xs → AreBelow (a + n) xs →
    ((q : ℕ) → a ≤ q → q < a + n → among q xs ≡ p q) →
    filter p (range_with_len a n) ≡ xs
range_filter p zero a [] up below same = refl
range_filter p zero a (x ∷ xs) up below same = let g = up.0 in let h = below.0 in absurd (omega arith)
range_filter p (suc n) a [] up below same =
    let out : p a ≡ false = sym (same a (omega arith) (omega arith)) in
    rw out (range_filter p n (a + 1) [] tt tt (λ q h l. same q (omega arith) (omega arith)))
range_filter p (suc n) a (x ∷ xs) up below same = ⊎_elim
    (λ (e : x ≡ a).
    let there : p a ≡ true = sym (same a (omega arith) (omega arith)) ∙ ap (λ (b : Bool). b || among a xs) (eq-eqb x a e) in
    rw there (ap (λ (k : ℕ). k ∷ filter p (range_with_len (a + 1) n)) (sym e)
    ∙ ap (λ (l : List ℕ). x ∷ l) (range_filter p n (a + 1) xs (later_up (x + 1) (a + 1) xs (omega arith) up.1) (below_more xs below.1)
    (λ q h l. sym (ap (λ (b : Bool). b || among q xs) (ne_eqb x q (λ f. absurd (omega arith)))) ∙ same q (omega arith) (omega arith)))))
    (λ (ne : x ≢ a).
    let more : a + 1 ≤ x = let g = up.0 in omega arith in
    let out : p a ≡ false = sym (same a (omega arith) (omega arith)) ∙ lacks_less a (a + 1) (x ∷ xs) (omega arith) (more, up.1) in
    rw out (range_filter p n (a + 1) (x ∷ xs) (more, up.1) (below_more (x ∷ xs) below) (λ q h l. same q (omega arith) (omega arith))))
    (cases_eq x a) where
      below_more : (ys : List ℕ) → AreBelow (a + suc n) ys → AreBelow (a + 1 + n) ys
      below_more [] h = tt
      below_more (y ∷ ys) h = (let g = h.0 in omega arith, below_more ys h.1)

pub ascends_from : (a : ℕ) (xs : List ℕ) → IsStrictlyIncreasing xs → (0 < length xs → a ≤ get_or xs 0 0) → Ascends a xs
ascends_from a [] up h = tt
ascends_from a (x ∷ xs) up h = (
  h (omega arith),
  ascends_from (x + 1) xs
      (λ k l. let e : suc k + 1 ≡ suc (k + 1) = omega arith in
      subst (λ (n : ℕ). slice_index xs k < slice_index (x ∷ xs) n) e (up (suc k) (omega arith)))
      (λ l. let g = up 0 (omega arith) in omega arith),
)

-- Sorted numbers without duplicates.

among_in : (q : ℕ) (xs : List ℕ) → Contains xs q → among q xs ≡ true
among_in q [] c = absurd (Contains-nil q c)
among_in q (x ∷ xs) c = ⊎_elim
    (λ (e : x ≡ q). ap (λ (b : Bool). b || among q xs) (eq-eqb x q e))
    (λ (there : Contains xs q). right_true (x == q) (among q xs) (among_in q xs there))
    (Contains-cons_cases x xs q c) where
      right_true : (a b : Bool) → b ≡ true → (a || b) ≡ true
      right_true true b e = refl
      right_true false b e = e

pub in_among : (q : ℕ) (xs : List ℕ) → among q xs ≡ true → Contains xs q
in_among q [] e = absurd (cc)
in_among q (x ∷ xs) e = by_test (x == q) refl e (in_among q xs) where
  by_test : (b : Bool) → (x == q) ≡ b → (b || among q xs) ≡ true → (among q xs ≡ true → Contains xs q) → Contains (x ∷ xs) q
  by_test true f g ih = (0, omega arith, eqb-true x q f)
  by_test false f g ih = Contains-there x xs q (ih g)

pub among_kept : (q : ℕ) (xs ys : List ℕ) → IsPermutation xs ys → among q (dedup eqb ys) ≡ among q xs
among_kept q xs ys moved = bool_same (among q (dedup eqb ys)) (among q xs)
    (λ e. among_in q xs (Contains-permutation ys xs q (IsPermutation-sym xs ys moved)
    (Contains-from_dedup eqb ys q (in_among q (dedup eqb ys) e))))
    (λ e. among_in q (dedup eqb ys) (Contains-dedup_nat ys q (Contains-permutation xs ys q moved (in_among q xs e))))
