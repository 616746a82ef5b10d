-- Members of a list by its head.
use Rattle.std.proofs.Common.{◌≡◌, zero, suc, ◌⊎◌, inl, inr, List, [], ◌∷◌, arith}
use Rattle.std.specs.List.{Contains}

pub Contains-nil : {X : Type 0} (x : X) → Contains [] x → ⊥
Contains-nil x is_in = let below = is_in.1 in absurd (omega (arith, below))

-- A member is the head, or a member of the rest.
pub Contains-cons_cases : {X : Type 0} (y : X) (ys : List X) (x : X) → Contains (y ∷ ys) x → (y ≡ x) ⊎ Contains ys x
Contains-cons_cases y ys x (zero, within, is) = inl is
Contains-cons_cases y ys x (suc k, within, is) = inr (k, omega arith, is)

pub Contains-there : {X : Type 0} (y : X) (ys : List X) (x : X) → Contains ys x → Contains (y ∷ ys) x
Contains-there y ys x (k, within, is) = (suc k, omega arith, is)
