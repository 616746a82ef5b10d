-- The lower of the lowest places of two sets of items that lack a property.
use Rattle.std.proofs.Common.{◌≡◌, ◌<◌, ◌≤◌, ◌⊎◌, ℕ, IfNone, IfSome, IsSomeAnd, None, Option, Some, arith, inl, inr, rules, ⊎_elim}
use Rattle.std.proofs.lemmas.Bool.{cases_lt}
use Rattle.elf_image.specs.faults.LowestPlace.{IsLowest, lower}
use Rattle.elf_image.proofs.LowestPlaces.{IsLowest-lower}

pub joined_none : {P Q R : Type 0} (a b r : Option ℕ) → r ≡ lower a b → (P → Q → R) → IfNone a P → IfNone b Q → IfNone r R
joined_none a b (Some n) is join left right = search rules
joined_none None None None is join left right = join left right
joined_none None (Some m) None is join left right = absurd (let never : None ≡ Some m = is in cc)
joined_none (Some l) None None is join left right = absurd (let never : None ≡ Some l = is in cc)
joined_none (Some l) (Some m) None is join left right = absurd (let never : None ≡ lower (Some l) (Some m) = is in cc)

pub decide : (o : Option ℕ) (a : ℕ) → IsSomeAnd o (λ l. l ≤ a) ⊎ (IsSomeAnd o (λ l. l ≤ a) → ⊥)
decide None a = inr (λ none. none)
decide (Some l) a = ⊎_elim (λ (above : a < l). inr (λ (le : l ≤ a). omega arith)) (λ (le : l ≤ a). inl le) (cases_lt a l)

module _ {P Q R : ℕ → Type 0} (join : (p : ℕ) → P p → Q p → R p) (first : (p : ℕ) → R p → P p) (second : (p : ℕ) → R p → Q p) where
  either : (p : ℕ) → (P p → ⊥) ⊎ (Q p → ⊥) → R p → ⊥
  either p (inl lacks) has = lacks (first p has)
  either p (inr lacks) has = lacks (second p has)

  given : (o : Option ℕ) → IfSome o (λ p. (P p → ⊥) ⊎ (Q p → ⊥)) → IfSome o (λ p. R p → ⊥)
  given None e = search rules
  given (Some p) e = either p e

  pub joined_lowest : (a b r : Option ℕ) → r ≡ lower a b → IsLowest (λ p. P p → ⊥) a → IsLowest (λ p. Q p → ⊥) b →
      IsLowest (λ p. R p → ⊥) r
  joined_lowest a b r is left right =
      let both = IsLowest-lower a b r is left right in record {
        present = given r both.present;
        least = λ q lacks. ⊎_elim
            (λ (at : IsSomeAnd r (λ l. l ≤ q)). at)
            (λ (not_at : IsSomeAnd r (λ l. l ≤ q) → ⊥).
            absurd (not_at (both.least q (inl (λ p. not_at (both.least q (inr (λ s. lacks (join q p s)))))))))
            (decide r q);
      }
