-- The lowest place of a set that is built from other sets.
use Rattle.std.proofs.Common.{◌≡◌, subst, ℕ, ◌+◌, ◌≤◌, ◌<◌, ◌⊎◌, inl, inr, Bool, true, false, Option, Some, None, min, IfSome}
use Rattle.std.proofs.Common.{IsSomeAnd, if◌then◌else◌, IsTrue, ◌↔◌, sym, not, arith, rules, refl}
use Rattle.rb_bytes.proofs.Tests.{if_not}
use Rattle.elf_image.specs.faults.LowestPlace.{IsLowest, lower, SomeBelow}

-- A set with the same places.
pub IsLowest-same : {P Q : ℕ → Type 0} (o : Option ℕ) → ((p : ℕ) → P p → Q p) → ((p : ℕ) → Q p → P p) →
    IsLowest P o → IsLowest Q o
IsLowest-same None to from is = record { present = is.present; least = λ p q. is.least p (from p q) }
IsLowest-same (Some l) to from is = record { present = to l is.present; least = λ p q. is.least p (from p q) }

-- No place.
pub IsLowest-none : {P : ℕ → Type 0} → ((p : ℕ) → P p → ⊥) → IsLowest P None
IsLowest-none empty = record { present = search rules; least = λ p is. absurd (empty p is) }

-- One place.
pub IsLowest-one : {P : ℕ → Type 0} (l : ℕ) → P l → ((p : ℕ) → P p → p ≡ l) → IsLowest P (Some l)
IsLowest-one l is only = record { present = is; least = λ p q. let e : p ≡ l = only p q in omega arith }

-- One place, if a condition holds.
pub IsLowest-if : (C : Type 0) (holds : Bool) (place : ℕ) → (holds ≡ true → C) → (C → holds ≡ true) →
    IsLowest (λ p. C × (p ≡ place)) (if holds then Some place else None)
IsLowest-if C true place to from = IsLowest-one place (to refl, refl) (λ p is. is.1)
IsLowest-if C false place to from = IsLowest-none (λ p is. let e : false ≡ true = from is.0 in cc)

lower-present : (P Q : ℕ → Type 0) (a b : Option ℕ) → IfSome a P → IfSome b Q → IfSome (lower a b) (λ p. P p ⊎ Q p)
lower-present P Q None None left right = search rules
lower-present P Q None (Some b) left right = inr right
lower-present P Q (Some a) None left right = inl left
lower-present P Q (Some a) (Some b) left right = search (rules, min)

-- A place at or above one of two places is at or above the lower of the two.
pub least_left : (a b : Option ℕ) (p : ℕ) → IsSomeAnd a (λ l. l ≤ p) → IsSomeAnd (lower a b) (λ l. l ≤ p)
least_left None b p is = absurd is
least_left (Some a) None p is = is
least_left (Some a) (Some b) p is = let below : a ≤ p = is in omega arith

pub least_right : (a b : Option ℕ) (p : ℕ) → IsSomeAnd b (λ l. l ≤ p) → IsSomeAnd (lower a b) (λ l. l ≤ p)
least_right None b p is = is
least_right (Some a) None p is = absurd is
least_right (Some a) (Some b) p is = let below : b ≤ p = is in omega arith

-- The places of either set.
pub IsLowest-or : {P Q : ℕ → Type 0} (a b : Option ℕ) → IsLowest P a → IsLowest Q b → IsLowest (λ p. P p ⊎ Q p) (lower a b)
IsLowest-or {P} {Q} a b left right = search (rules, lower-present, least_left, least_right)

-- The places of the first structures, and of one more.
pub IsLowest-begin : (S : ℕ → ℕ → Type 0) → IsLowest (SomeBelow 0 S) None
IsLowest-begin S = IsLowest-none (λ p is. let below : is.0 < 0 = is.1 in absurd (omega arith))

some_more : (S : ℕ → ℕ → Type 0) (n p : ℕ) → SomeBelow n S p ⊎ S n p → SomeBelow (n + 1) S p
some_more S n p (inl is) = let below : is.0 < n = is.1 in (is.0, omega arith, is.2)
some_more S n p (inr is) = (n, omega arith, is)

some_fewer : (S : ℕ → ℕ → Type 0) (n p : ℕ) → SomeBelow (n + 1) S p → SomeBelow n S p ⊎ S n p
some_fewer S n p is = search rules

pub IsLowest-more : (S : ℕ → ℕ → Type 0) (n : ℕ) (a b : Option ℕ) → IsLowest (SomeBelow n S) a → IsLowest (S n) b →
    IsLowest (SomeBelow (n + 1) S) (lower a b)
IsLowest-more S n a b before here = IsLowest-same (lower a b) (some_more S n) (some_fewer S n) (IsLowest-or a b before here)

-- The results of calls of `lower` and `place_if`.
pub IsLowest-lower : {P Q : ℕ → Type 0} (a b r : Option ℕ) → r ≡ lower a b → IsLowest P a → IsLowest Q b →
    IsLowest (λ p. P p ⊎ Q p) r
IsLowest-lower a b r e left right = subst (IsLowest _) (sym e) (IsLowest-or a b left right)

pub IsLowest-next : (S : ℕ → ℕ → Type 0) (n : ℕ) (a b r : Option ℕ) → r ≡ lower a b →
    IsLowest (SomeBelow n S) a → IsLowest (S n) b → IsLowest (SomeBelow (n + 1) S) r
IsLowest-next S n a b r e before here = subst (IsLowest _) (sym e) (IsLowest-more S n a b before here)

pub IsLowest-place : (C : Type 0) (holds : Bool) (at place : ℕ) (r : Option ℕ) →
    r ≡ (if holds then Some at else None) → at ≡ place → IsTrue holds ↔ C → IsLowest (λ p. C × (p ≡ place)) r
IsLowest-place C holds at place r e same test = search (rules, IsLowest-if)

-- The end of a loop over all structures.
pub IsLowest-all : (S : ℕ → ℕ → Type 0) (n count : ℕ) (o : Option ℕ) → n ≡ count → IsLowest (SomeBelow n S) o →
    IsLowest (SomeBelow count S) o
IsLowest-all S n count o same is = let All : ℕ → Type 0 = λ k. IsLowest (SomeBelow k S) o in subst All same is

-- A place at which a property doesn't hold.
pub IsLowest-place_not : (C : Type 0) (holds : Bool) (at place : ℕ) (r : Option ℕ) → r ≡ (if (not holds) then Some at else None) →
    at ≡ place → IsTrue holds ↔ C → IsLowest (λ p. (C → ⊥) × (p ≡ place)) r
IsLowest-place_not C holds at place r e same test = IsLowest-place (C → ⊥) (not holds) at place r e same (if_not holds test)

-- Places that only count under a condition.
pub IsLowest-under : {P : ℕ → Type 0} (C : Type 0) (o : Option ℕ) → C → IsLowest P o → IsLowest (λ p. C × P p) o
IsLowest-under C o holds is = IsLowest-same o (λ p here. (holds, here)) (λ p both. both.1) is
