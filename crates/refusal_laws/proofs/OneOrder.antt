-- A set has at most one list in a strict order.
use Rattle.std.proofs.Common.{◌≡◌, ◌⊎◌, ◌∙◌, ℕ, zero, suc, List, [], ◌∷◌, refl, sym, ap, subst, inl, inr, ⊎_elim, arith}
use Rattle.std.specs.Prelude.{AllPairs, Contains}
use Rattle.rb_bytes.proofs.Members.{Contains-cons_cases, Contains-there}
use Rattle.rv_code.specs.layout.Lists.{IsPairBefore, ListsAll, ListsPairs}

module _ {X : Type 0} (R : X → X → Type 0) (strict : (x y : X) → R x y → R y x → ⊥) where
  abbrev HaveAll : List X → List X → Type 0
  HaveAll xs ys = (z : X) → Contains xs z → Contains ys z

  after_head : (x : X) (xs : List X) → AllPairs R (x ∷ xs) → AllPairs R xs
  after_head x xs up = λ i j d less within. up (suc i) (suc j) d (omega (arith, less)) (omega (arith, within))

  below : (x : X) (xs : List X) → AllPairs R (x ∷ xs) → (y : X) → Contains xs y → R x y
  below x xs up y (k, within, is) = subst (R x) is (up zero (suc k) y (omega arith) (omega (arith, within)))

  none_in : (x : X) (xs : List X) → Contains [] x → ⊥
  none_in x xs (k, within, is) = absurd (omega (arith, within))

  first : (x : X) (xs : List X) → Contains (x ∷ xs) x
  first x xs = (zero, omega arith, refl)

  rest_in : (x y : X) (xs ys : List X) → x ≡ y → AllPairs R (x ∷ xs) → HaveAll (x ∷ xs) (y ∷ ys) → HaveAll xs ys
  rest_in x y xs ys same up all z z_in = ⊎_elim
      (λ (at : y ≡ z).
      let own : R x x = subst (R x) (sym (same ∙ at)) (below x xs up z z_in) in
      absurd (strict x x own own))
      (λ (later : Contains ys z). later)
      (Contains-cons_cases y ys z (all z (Contains-there x xs z z_in)))

  heads : (x y : X) (xs ys : List X) → AllPairs R (x ∷ xs) → AllPairs R (y ∷ ys) → (y ≡ x) ⊎ Contains ys x →
      (x ≡ y) ⊎ Contains xs y → x ≡ y
  heads x y xs ys up up' (inl same) other = sym same
  heads x y xs ys up up' (inr later) (inl same) = same
  heads x y xs ys up up' (inr later) (inr later') = absurd (strict x y (below x xs up y later') (below y ys up' x later))

  one_order : (xs ys : List X) → AllPairs R xs → AllPairs R ys → HaveAll xs ys → HaveAll ys xs → xs ≡ ys
  one_order [] [] up up' all all' = refl
  one_order [] (y ∷ ys) up up' all all' = absurd (none_in y ys (all' y (first y ys)))
  one_order (x ∷ xs) [] up up' all all' = absurd (none_in x xs (all x (first x xs)))
  one_order (x ∷ xs) (y ∷ ys) up up' all all' =
      let same = heads x y xs ys up up' (Contains-cons_cases y ys x (all x (first x xs)))
      (Contains-cons_cases x xs y (all' y (first y ys))) in
      ap (λ z. z ∷ xs) same
      ∙ ap (λ zs. y ∷ zs) (one_order xs ys (after_head x xs up) (after_head y ys up') (rest_in x y xs ys same up all)
      (rest_in y x ys xs (sym same) up' all'))

  pub one_listing : (Is : X → Type 0) (xs ys : List X) → ListsAll Is R xs → ListsAll Is R ys → xs ≡ ys
  one_listing Is xs ys are are' =
      one_order xs ys are.ordered are'.ordered (λ z z_in. are'.each z (are.only z z_in)) (λ z z_in. are.each z (are'.only z z_in))

pub pair_strict : (p q : ℕ × ℕ) → IsPairBefore p q → IsPairBefore q p → ⊥
pair_strict p q (inl less) (inl more) = absurd (omega (arith, less, more))
pair_strict p q (inl less) (inr (same, more)) = absurd (omega (arith, less, same))
pair_strict p q (inr (same, less)) (inl more) = absurd (omega (arith, same, more))
pair_strict p q (inr (same, less)) (inr (same', more)) = absurd (omega (arith, less, more))

pub one_pair_list : (Is : ℕ × ℕ → Type 0) (xs ys : List (ℕ × ℕ)) → ListsPairs Is xs → ListsPairs Is ys → xs ≡ ys
one_pair_list = one_listing IsPairBefore pair_strict
