-- The disjunction of two tests.
use Rattle.std.proofs.Common.{◌≡◌, ◌∙◌, sym, refl, ◌⊎◌, inl, inr, ⊎_elim, ◌↔◌, Bool, true, false, ◌||◌, IsTrue}

pub either : {P Q : Type 0} (a b r : Bool) → r ≡ (a || b) → IsTrue a ↔ P → IsTrue b ↔ Q → IsTrue r ↔ (P ⊎ Q)
either {P} {Q} true b r is one other = (λ _. inl (one.0 refl), λ _. is)
either {P} {Q} false b r is one other = (
  λ passes. inr (other.0 (sym is ∙ passes)),
  ⊎_elim (λ p. let e : false ≡ true = one.1 p in absurd (cc)) (λ q. is ∙ other.1 q),
)
