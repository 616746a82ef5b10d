-- The target of a branch or jump that leaves its function.
use Rattle.std.proofs.Common.{◌≡◌, ◌∙◌, ap, refl, ℕ, Bool, Option, Some, None, subst, sym}
use Rattle.std.specs.Prelude.{◌↔◌, IsTrue, IsSomeAnd, is_some}

pub far_is : (o target : Option ℕ) (P : ℕ → Type 0) (E : Type 0) → E →
    ((a : ℕ) → (o ≡ Some a) ↔ ((target ≡ Some a) × P a)) → (b : Bool) → b ≡ is_some o → IsTrue b ↔ (E × IsSomeAnd target P)
far_is o target P E ends far b is = (into o far is, out)
  where
    some_and : (t : Option ℕ) (a : ℕ) → t ≡ Some a → P a → IsSomeAnd t P
    some_and t a e holds = subst (λ (s : Option ℕ). IsSomeAnd s P) (sym e) holds

    into : (o : Option ℕ) → ((a : ℕ) → (o ≡ Some a) ↔ ((target ≡ Some a) × P a)) → b ≡ is_some o → IsTrue b → E × IsSomeAnd target P
    into (Some a) far is true_b = let (there, holds) = (far a).0 refl in (ends, some_and target a there holds)
    into None far is true_b = absurd (cc)

    out : E × IsSomeAnd target P → IsTrue b
    out (e, some) = by target some (λ a there holds. is ∙ ap is_some ((far a).1 (there, holds)))
      where
        by : (t : Option ℕ) → IsSomeAnd t P → ((a : ℕ) → t ≡ Some a → P a → IsTrue b) → IsTrue b
        by (Some a) holds so = so a refl holds
        by None holds so = absurd holds
