-- Facts on the value of an option, and on the first of two options.
use Rattle.std.proofs.Common.{◌≡◌, ◌∙◌, ◌⊎◌, inl, inr, refl, sym, subst, false, true, Option, Some, None, IsSome, option_map}
use Rattle.std.specs.Option.{option_or}
use Rattle.std.specs.Prelude.{IsSomeAnd}

pub some_and : {A : Type 0} (P : A → Type 0) (o : Option A) (x : A) → o ≡ Some x → P x → IsSomeAnd o P
some_and {A} P o x is holds = subst (λ (o : Option A). IsSomeAnd o P) (sym is) holds

pub of_some : {A : Type 0} (P : A → Type 0) (o : Option A) (x : A) → o ≡ Some x → IsSomeAnd o P → P x
of_some {A} P o x is holds = subst (λ (o : Option A). IsSomeAnd o P) is holds

pub some_weaker : {A : Type 0} (P Q : A → Type 0) (o : Option A) → ((x : A) → P x → Q x) → IsSomeAnd o P → IsSomeAnd o Q
some_weaker P Q None weaker holds = absurd holds
some_weaker P Q (Some x) weaker holds = weaker x holds

-- The value, if the option has one.
pub the_some : {A : Type 0} (P : A → Type 0) (o : Option A) → IsSomeAnd o P → (x : A) × (o ≡ Some x) × P x
the_some P None holds = absurd holds
the_some P (Some x) holds = (x, refl, holds)

-- Options that are known to have a value, or to have none.

pub option_cases : {A : Type 0} (o : Option A) → (o ≡ None) ⊎ ((x : A) × (o ≡ Some x))
option_cases None = inl refl
option_cases (Some x) = inr (x, refl)

pub same_some : {A : Type 0} (o : Option A) (x y : A) → o ≡ Some x → o ≡ Some y → x ≡ y
same_some o x y is is' = let e : Some x ≡ Some y = sym is ∙ is' in cc

pub not_found : {A : Type 0} (o : Option A) (y : A) → o ≡ None → o ≡ Some y → ⊥
not_found o y is is' = let e : None ≡ Some y = sym is ∙ is' in cc

pub none_some : {A : Type 0} (o : Option A) → o ≡ None → IsSome o → ⊥
none_some o is some = let e : false ≡ true = subst IsSome is some in cc

pub none_of : {A : Type 0} (o : Option A) → ((x : A) → o ≡ Some x → ⊥) → o ≡ None
none_of None never = refl
none_of (Some x) never = absurd (never x refl)

-- The first of two options that has a value.

pub both_none : {A : Type 0} (a b : Option A) → option_or a b ≡ None → (a ≡ None) × (b ≡ None)
both_none None b e = (refl, e)
both_none (Some x) b e = absurd (cc)

pub mapped_or : {A B : Type 0} (f : A → B) (a b : Option A) → option_map f (option_or a b) ≡ option_or (option_map f a) (option_map f b)
mapped_or f (Some x) b = refl
mapped_or f None b = refl
