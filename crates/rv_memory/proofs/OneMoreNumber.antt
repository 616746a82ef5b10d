-- A list of numbers with the index of each, and one more number.
use Rattle.std.proofs.Common.{◌≡◌, ◌∙◌, sym, ap, ℕ, ◌<◌, Bool, true, false, refl}
use Rattle.std.proofs.Common.{List, [], ◌∷◌, ◌++◌, length, get_or, Option, Some, None, arith, length-append}
use Rattle.std.specs.Prelude.{◌==◌, if◌then◌else◌}
use Rattle.std.proofs.lemmas.List.{get_or_append_left, get_or-append_right}
use Rattle.std.proofs.lemmas.Bool.{eqb-true, eq-eqb, false_from_ne_true, cases_lt}
use Rattle.std.proofs.lemmas.Grind.{common_steps}

-- The number that is added, and the numbers before it.
pub number_last : (numbers : List ℕ) (n : ℕ) → get_or (numbers ++ n ∷ []) (length numbers) 0 ≡ n
number_last numbers n = grind (arith, common_steps, get_or-append_right)

pub number_before : (numbers : List ℕ) (n i : ℕ) → i < length numbers → get_or (numbers ++ n ∷ []) i 0 ≡ get_or numbers i 0
number_before numbers n i less = get_or_append_left numbers (n ∷ []) 0 i less

module _ (place next : ℕ → Option ℕ) (numbers : List ℕ) (n : ℕ)
    (indexed : (i : ℕ) → i < length numbers → place (get_or numbers i 0) ≡ Some i)
    (held : (q i : ℕ) → place q ≡ Some i → i < length numbers) (numbered : (q i : ℕ) → place q ≡ Some i → get_or numbers i 0 ≡ q)
    (absent : place n ≡ None) (is : (q : ℕ) → next q ≡ (if q == n then Some (length numbers) else place q)) where
  next-new : (q : ℕ) → q ≡ n → next q ≡ Some (length numbers)
  next-new q same = is q ∙ ap (λ t. if t then Some (length numbers) else place q) (eq-eqb q n same)

  next-old : (q : ℕ) → (q == n) ≡ false → next q ≡ place q
  next-old q other = is q ∙ ap (λ t. if t then Some (length numbers) else place q) other

  pub indexed_more : (i : ℕ) → i < length (numbers ++ n ∷ []) → next (get_or (numbers ++ n ∷ []) i 0) ≡ Some i
  indexed_more i within =
      grind (arith, common_steps, cases_lt, false_from_ne_true, eqb-true, number_before, next-old, length-append, next-new, number_last)

  pub held_more : (q i : ℕ) → next q ≡ Some i → i < length (numbers ++ n ∷ [])
  held_more q i found = grind (arith, common_steps, next-new, eqb-true, length-append, next-old)

  pub numbered_more : (q i : ℕ) → next q ≡ Some i → get_or (numbers ++ n ∷ []) i 0 ≡ q
  numbered_more q i found = cases (q == n) refl
    where
      cases : (t : Bool) → (q == n) ≡ t → get_or (numbers ++ n ∷ []) i 0 ≡ q
      cases true e = let same : Some (length numbers) ≡ Some i = sym (next-new q (eqb-true q n e)) ∙ found in
          let here : length numbers ≡ i = cc in ap (λ k. get_or (numbers ++ n ∷ []) k 0) (sym here) ∙ number_last numbers n
          ∙ sym (eqb-true q n e)
      cases false e = let there : place q ≡ Some i = sym (next-old q e) ∙ found in number_before numbers n i (held q i there)
          ∙ numbered q i there
