-- Lists made of stretches in another order.
use Rattle.std.proofs.Common.{◌<◌, ℕ, zero, suc, List, [], ◌∷◌, ◌++◌, arith, length, get_or, set, subst, append_assoc}
use Rattle.std.specs.Prelude.{IsPermutation, flat_map}
use Rattle.std.specs.List.{swap}
use Rattle.std.proofs.lemmas.List.Sorted.{IsPermutation-append_comm, IsPermutation-append_left, IsPermutation-append_right}
use Rattle.std.proofs.lemmas.List.Sorted.{IsPermutation-keeps, IsPermutation-refl, IsPermutation-trans}

module _ {X A : Type 0} (f : X → List A) where
  -- Two lists before a third one change places.
  swapped : (a b c : List A) → IsPermutation (a ++ (b ++ c)) (b ++ (a ++ c))
  swapped a b c =
      subst (λ (xs : List A). IsPermutation xs (b ++ (a ++ c))) (append_assoc a b c)
      (subst (λ (xs : List A). IsPermutation ((a ++ b) ++ c) xs) (append_assoc b a c)
      (IsPermutation-append_left c (a ++ b) (b ++ a) (IsPermutation-append_comm a b)))

  -- The first item and a later one change places.
  first_moved : (x : X) (xs : List X) (j : ℕ) (d : X) → j < length xs →
      IsPermutation (f x ++ flat_map f xs) (f (get_or xs j d) ++ flat_map f (set xs j x))
  first_moved x [] j d lt = absurd (omega arith)
  first_moved x (y ∷ ys) zero d lt = swapped (f x) (f y) (flat_map f ys)
  first_moved x (y ∷ ys) (suc j) d lt =
      let z = get_or ys j d in
      IsPermutation-trans (f x ++ (f y ++ flat_map f ys)) (f y ++ (f x ++ flat_map f ys)) (f z ++ (f y ++ flat_map f (set ys j x)))
      (swapped (f x) (f y) (flat_map f ys))
      (IsPermutation-trans (f y ++ (f x ++ flat_map f ys)) (f y ++ (f z ++ flat_map f (set ys j x)))
      (f z ++ (f y ++ flat_map f (set ys j x)))
      (IsPermutation-append_right (f y) (f x ++ flat_map f ys) (f z ++ flat_map f (set ys j x))
      (first_moved x ys j d (omega arith)))
      (swapped (f y) (f z) (flat_map f (set ys j x))))

  -- Any two items change places.
  two_moved : (xs : List X) (i j : ℕ) (d : X) → i < length xs → j < length xs →
      IsPermutation (flat_map f xs) (flat_map f (set (set xs i (get_or xs j d)) j (get_or xs i d)))
  two_moved [] i j d a b = absurd (omega arith)
  two_moved (x ∷ xs) zero zero d a b = IsPermutation-refl (f x ++ flat_map f xs)
  two_moved (x ∷ xs) zero (suc j) d a b = first_moved x xs j d (omega arith)
  two_moved (x ∷ xs) (suc i) zero d a b = first_moved x xs i d (omega arith)
  two_moved (x ∷ xs) (suc i) (suc j) d a b =
      IsPermutation-append_right (f x) (flat_map f xs) (flat_map f (set (set xs i (get_or xs j d)) j (get_or xs i d)))
      (two_moved xs i j d (omega arith) (omega arith))

  -- The lists of items in another order.
  pub flat_map-permutation : (xs ys : List X) → IsPermutation xs ys → IsPermutation (flat_map f xs) (flat_map f ys)
  flat_map-permutation xs ys moved =
      IsPermutation-keeps xs (λ zs. IsPermutation (flat_map f xs) (flat_map f zs)) (IsPermutation-refl (flat_map f xs)) step ys moved
    where
      step : (l : List X) (i j : ℕ) → i < length l → j < length l → IsPermutation (flat_map f xs) (flat_map f l) →
          IsPermutation (flat_map f xs) (flat_map f (swap l i j))
      step [] i j a b p = absurd (omega arith)
      step (x ∷ l) i j a b p =
          IsPermutation-trans (flat_map f xs) (flat_map f (x ∷ l)) (flat_map f (swap (x ∷ l) i j)) p
          (two_moved (x ∷ l) i j x a b)
