-- A set has at most one ascending list.
use Rattle.std.proofs.Common.{◌≡◌, ◌∙◌, sym, ap, subst, refl, ℕ, zero, suc, ◌<◌, ◌⊎◌, inl, inr, ⊎_elim, List, [], ◌∷◌, map, arith}
use Rattle.std.specs.Prelude.{Contains, AllPairs}
use Rattle.rb_bytes.proofs.Members.{Contains-cons_cases, Contains-there}

module _ {X Z : Type 0} (key : X → ℕ) (image : X → Z) (Same : X → X → Type 0) (same_key : (x y : X) → Same x y → key x ≡ key y)
    (same_image : (x y : X) → Same x y → image x ≡ image y) where
  abbrev Ascends : List X → Type 0
  Ascends xs = AllPairs (λ x y. key x < key y) xs

  tail_ascends : (x : X) (xs : List X) → Ascends (x ∷ xs) → Ascends xs
  tail_ascends x xs up = λ i j d less within. up (suc i) (suc j) d (omega (arith, less)) (omega (arith, within))

  head_below : (x : X) (xs : List X) → Ascends (x ∷ xs) → (y : X) → Contains xs y → key x < key y
  head_below x xs up y (k, within, is) = subst (λ z. key x < key z) is (up zero (suc k) y (omega arith) (omega (arith, within)))

  heads_same : (x y : X) (xs ys : List X) → Ascends (x ∷ xs) → Ascends (y ∷ ys) → (y' : X) → Contains (y ∷ ys) y' → Same x y' →
      (x' : X) → Contains (x ∷ xs) x' → Same x' y → Same x y
  heads_same x y xs ys up up' y' y_in to x' x_in from = by (Contains-cons_cases y ys y' y_in) (Contains-cons_cases x xs x' x_in)
    where
      by : (y ≡ y') ⊎ Contains ys y' → (x ≡ x') ⊎ Contains xs x' → Same x y
      by (inl first) other = subst (Same x) (sym first) to
      by (inr later) (inl first) = subst (λ z. Same z y) (sym first) from
      by (inr later) (inr later') =
          let below = head_below y ys up' y' later in
          let below' = head_below x xs up x' later' in
          let one = same_key x y' to in
          let other = same_key x' y from in
          absurd (omega arith)

  pub one_list : (xs ys : List X) → Ascends xs → Ascends ys → ((x : X) → Contains xs x → (y : X) × Contains ys y × Same x y) →
      ((y : X) → Contains ys y → (x : X) × Contains xs x × Same x y) → map image xs ≡ map image ys
  one_list [] [] up up' to from = refl
  one_list [] (y ∷ ys) up up' to from =
      let (x, (k, within, is), same) = from y (zero, omega arith, refl) in
      absurd (omega (arith, within))
  one_list (x ∷ xs) [] up up' to from =
      let (y, (k, within, is), same) = to x (zero, omega arith, refl) in
      absurd (omega (arith, within))
  one_list (x ∷ xs) (y ∷ ys) up up' to from =
      let (y', y_in, first) = to x (zero, omega arith, refl) in
      let (x', x_in, second) = from y (zero, omega arith, refl) in
      let heads : Same x y = heads_same x y xs ys up up' y' y_in first x' x_in second in
      let keys : key x ≡ key y = same_key x y heads in
      ap (λ z. z ∷ map image xs) (same_image x y heads)
      ∙ ap (λ zs. image y ∷ zs) (one_list xs ys (tail_ascends x xs up) (tail_ascends y ys up') (later keys) (earlier keys))
    where
      later : key x ≡ key y → (a : X) → Contains xs a → (b : X) × Contains ys b × Same a b
      later keys a a_in = by (to a (Contains-there x xs a a_in))
        where
          by : (b : X) × Contains (y ∷ ys) b × Same a b → (b : X) × Contains ys b × Same a b
          by (b, b_in, same) = ⊎_elim
              (λ (first : y ≡ b).
              let below = head_below x xs up a a_in in
              let one = same_key a b same in
              let other = ap key first in
              absurd (omega arith))
              (λ (rest : Contains ys b). (b, rest, same))
              (Contains-cons_cases y ys b b_in)

      earlier : key x ≡ key y → (b : X) → Contains ys b → (a : X) × Contains xs a × Same a b
      earlier keys b b_in = by (from b (Contains-there y ys b b_in))
        where
          by : (a : X) × Contains (x ∷ xs) a × Same a b → (a : X) × Contains xs a × Same a b
          by (a, a_in, same) = ⊎_elim
              (λ (first : x ≡ a).
              let below = head_below y ys up' b b_in in
              let one = same_key a b same in
              let other = ap key first in
              absurd (omega arith))
              (λ (rest : Contains xs a). (a, rest, same))
              (Contains-cons_cases x xs a a_in)
