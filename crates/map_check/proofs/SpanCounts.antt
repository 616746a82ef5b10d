-- The number of spans of an address.
use Rattle.std.proofs.Common.{◌≡◌, ◌<◌, ◌≤◌, ◌+◌, ◌∙◌, ℕ, suc, zero, Bool, true, false, List, [], ◌∷◌, length, get_or, arith, refl, ap}
use Rattle.std.proofs.Common.{cond, ⊎_elim}
use Rattle.std.specs.Prelude.{Any}
use Rattle.std.specs.List.{count_by}
use Rattle.std.proofs.lemmas.Bool.{cases_Bool}
use Rattle.std.proofs.lemmas.List.Sums.{sum_by-cons}

module _ {X : Type 0} (p : X → Bool) where
  pub count-cons : (x : X) (xs : List X) → count_by p (x ∷ xs) ≡ cond (p x) 1 0 + count_by p xs
  count-cons x xs = sum_by-cons (λ y. cond (p y) 1 0) x xs

  pub count-yes : (x : X) (xs : List X) → p x ≡ true → count_by p (x ∷ xs) ≡ suc (count_by p xs)
  count-yes x xs is = let e : 1 + count_by p xs ≡ suc (count_by p xs) = omega arith in
      count-cons x xs ∙ ap (λ b. cond b 1 0 + count_by p xs) is ∙ e

  pub count-no : (x : X) (xs : List X) → p x ≡ false → count_by p (x ∷ xs) ≡ count_by p xs
  count-no x xs is = let e : 0 + count_by p xs ≡ count_by p xs = omega arith in
      count-cons x xs ∙ ap (λ b. cond b 1 0 + count_by p xs) is ∙ e

  pub counted : (xs : List X) (k : ℕ) (d : X) → k < length xs → p (get_or xs k d) ≡ true → 0 < count_by p xs
  counted [] k d within is = absurd (omega arith)
  counted (x ∷ xs) zero d within is = let e = count-yes x xs is in omega (arith, e)
  counted (x ∷ xs) (suc k) d within is =
      let more = counted xs k d (omega arith) is in let e = count-cons x xs in omega (arith, e, more)

  pub counted_twice : (xs : List X) (i j : ℕ) (d : X) → i < j → j < length xs → p (get_or xs i d) ≡ true →
      p (get_or xs j d) ≡ true → 1 < count_by p xs
  counted_twice [] i j d less within is other = absurd (omega arith)
  counted_twice (x ∷ xs) i zero d less within is other = absurd (omega arith)
  counted_twice (x ∷ xs) zero (suc j) d less within is other =
      let more = counted xs j d (omega arith) other in let e = count-yes x xs is in omega (arith, e, more)
  counted_twice (x ∷ xs) (suc i) (suc j) d less within is other =
      let more = counted_twice xs i j d (omega arith) (omega arith) is other in
      let e = count-cons x xs in omega (arith, e, more)

  pub any_counted : (xs : List X) → 0 < count_by p xs → Any (λ x. p x ≡ true) xs
  any_counted [] some = absurd (omega arith)
  any_counted (x ∷ xs) some = ⊎_elim
      (λ (is : p x ≡ true). (zero, x, omega arith, refl, is))
      (λ (other : p x ≡ false).
      let e = count-no x xs other in
      let rest = any_counted xs (omega (arith, e)) in
      let within : rest.0 < length xs = rest.2 in
      (suc rest.0, rest.1, omega arith, rest.3, rest.4))
      (cases_Bool (p x))

  pub none_counted : (ys : List X) → ((k : ℕ) (d : X) → k < length ys → p (get_or ys k d) ≡ true → ⊥) → count_by p ys ≡ 0
  none_counted [] none = refl
  none_counted (y ∷ ys) none = ⊎_elim
      (λ (is : p y ≡ true). absurd (none zero y (omega arith) is))
      (λ (other : p y ≡ false). count-no y ys other ∙ none_counted ys (λ k d within is. none (suc k) d (omega arith) is))
      (cases_Bool (p y))

  -- if no two items pass a test, at most one does
  pub at_most_one : (xs : List X) → ((i j : ℕ) (d : X) → i < j → j < length xs → p (get_or xs i d) ≡ true → p (get_or xs j d) ≡ true → ⊥) →
      count_by p xs ≤ 1
  at_most_one [] alone = omega arith
  at_most_one (x ∷ xs) alone = ⊎_elim
      (λ (is : p x ≡ true).
      let e = count-yes x xs is in
      let none : count_by p xs ≡ 0 = none_counted xs (λ k d within other. alone zero (suc k) d (omega arith) (omega arith) is other) in
      omega (arith, e, none))
      (λ (other : p x ≡ false).
      let e = count-no x xs other in
      let rest = at_most_one xs (λ i j d less within a b. alone (suc i) (suc j) d (omega arith) (omega arith) a b) in
      omega (arith, e, rest))
      (cases_Bool (p x))
