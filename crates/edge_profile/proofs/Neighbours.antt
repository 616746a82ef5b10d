-- Lists in which each item and the next one are related, by a transitive relation.
use Rattle.std.proofs.Common.{◌≡◌, subst, zero, suc, ℕ, ◌+◌, ◌-◌, ◌<◌, List, length, get_or, arith}
use Rattle.std.specs.Prelude.{AllPairs}

module _ {X : Type 0} (R : X → X → Type 0) (passes : (x y z : X) → R x y → R y z → R x z) (xs : List X)
    (next : (k : ℕ) (d : X) → k + 1 < length xs → R (get_or xs k d) (get_or xs (k + 1) d)) where
  far : (n i j : ℕ) (d : X) → j ≡ i + suc n → j < length xs → R (get_or xs i d) (get_or xs j d)
  far zero i j d gap within =
      let e : i + 1 ≡ j = omega arith in
      subst (λ (k : ℕ). R (get_or xs i d) (get_or xs k d)) e (next i d (omega arith))
  far (suc n) i j d gap within =
      passes (get_or xs i d) (get_or xs (i + 1) d) (get_or xs j d) (next i d (omega arith))
      (far n (i + 1) j d (omega arith) within)

  pub all_pairs : AllPairs R xs
  all_pairs i j d less within = far (j - i - 1) i j d (omega arith) within
