-- Double negation of decidable propositions.
use Rattle.std.proofs.Common.{◌≡◌, ℕ, ◌<◌, Bool, true, false, refl, arith, inl, inr}
use Rattle.std.specs.Prelude.{nat_eq}
use Rattle.std.proofs.lemmas.Bool.{cases_lt, eqb-true, eqb-false}

pub stable_bool : (b c : Bool) → ((b ≡ c → ⊥) → ⊥) → b ≡ c
stable_bool true true h = refl
stable_bool false false h = refl
stable_bool true false h = absurd (h (λ e. absurd (cc)))
stable_bool false true h = absurd (h (λ e. absurd (cc)))

pub stable_lt : (a b : ℕ) → ((a < b → ⊥) → ⊥) → a < b
stable_lt a b h = elim (cases_lt a b) [ inl less ↦ less | inr more ↦ absurd (h (λ less. absurd (omega (arith, less, more)))) ]

pub stable_equal : (a b : ℕ) → ((a ≡ b → ⊥) → ⊥) → a ≡ b
stable_equal a b h = by (nat_eq a b) refl
  where
    by : (t : Bool) → nat_eq a b ≡ t → a ≡ b
    by true e = eqb-true a b e
    by false e = absurd (h (eqb-false a b e))
