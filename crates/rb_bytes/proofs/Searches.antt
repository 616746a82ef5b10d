-- Results of searches and filters of lists.
use Rattle.std.proofs.Common.{◌≡◌, ◌∙◌, sym, ap, refl, Bool, true, false, cond, List, [], ◌∷◌, Some, None, arith, inl, inr}
use Rattle.std.specs.List.{Contains, find, filter}
use Rattle.rb_bytes.proofs.Members.{Contains-cons_cases, Contains-there}

-- The element found passes and is a member.
pub find-found : {X : Type 0} (p : X → Bool) (xs : List X) (x : X) → find p xs ≡ Some x → (p x ≡ true) × Contains xs x
find-found p [] x found = cc
find-found {X} p (y ∷ ys) x found =
    elim (p y) as (λ b. p y ≡ b → cond b (Some y) (find p ys) ≡ Some x → (p x ≡ true) × Contains (y ∷ ys) x) [
      | true ↦ λ passes first. let same : y ≡ x = cc in (ap p (sym same) ∙ passes, (0, omega arith, same))
      | false ↦ λ fails later. let rest = find-found p ys x later in (rest.0, Contains-there y ys x rest.1)
    ]
    refl found

-- A search finds an element if a member passes.
pub find-finds : {X : Type 0} (p : X → Bool) (xs : List X) (x : X) → Contains xs x → p x ≡ true → (y : X) × (find p xs ≡ Some y)
find-finds p [] x (k, within, is) passes = absurd (omega arith)
find-finds {X} p (y ∷ ys) x is_in passes =
    elim (p y) as (λ b. p y ≡ b → (z : X) × (cond b (Some y) (find p ys) ≡ Some z)) [
      | true ↦ λ first. (y, refl)
      | false ↦ λ fails. elim (Contains-cons_cases y ys x is_in) [
        | inl same ↦ absurd (let both : true ≡ false = sym passes ∙ (ap p (sym same) ∙ fails) in cc)
        | inr later ↦ find-finds p ys x later passes
      ]
    ]
    refl

-- A search finds nothing if no member passes.
pub find-none : {X : Type 0} (p : X → Bool) (xs : List X) → ((x : X) → Contains xs x → p x ≡ false) → find p xs ≡ None
find-none {X} p xs fails =
    elim (find p xs) as (λ r. find p xs ≡ r → r ≡ None) [
      | None ↦ λ is. refl
      | Some x ↦ λ is. let found = find-found p xs x is in absurd (let both : true ≡ false = sym found.0 ∙ fails x found.1 in cc)
    ]
    refl

-- A search finds the only member that passes.
pub find-only : {X : Type 0} (p : X → Bool) (xs : List X) (x : X) → Contains xs x → p x ≡ true →
    ((y : X) → Contains xs y → p y ≡ true → y ≡ x) → find p xs ≡ Some x
find-only p xs x is_in passes only =
    let (y, is) = find-finds p xs x is_in passes in
    let found = find-found p xs y is in
    is ∙ ap (λ z. Some z) (only y found.1 found.0)

-- Members that pass are in the filtered list.
pub Contains-filter : {X : Type 0} (p : X → Bool) (xs : List X) (x : X) → Contains xs x → p x ≡ true → Contains (filter p xs) x
Contains-filter p [] x (k, within, is) passes = absurd (omega arith)
Contains-filter {X} p (y ∷ ys) x is_in passes =
    elim (p y) as (λ b. p y ≡ b → Contains (cond b (y ∷ filter p ys) (filter p ys)) x) [
      | true ↦ λ first. elim (Contains-cons_cases y ys x is_in) [
        | inl same ↦ (0, omega arith, same)
        | inr later ↦ Contains-there y (filter p ys) x (Contains-filter p ys x later passes)
      ]
      | false ↦ λ fails. elim (Contains-cons_cases y ys x is_in) [
        | inl same ↦ absurd (let both : true ≡ false = sym passes ∙ (ap p (sym same) ∙ fails) in cc)
        | inr later ↦ Contains-filter p ys x later passes
      ]
    ]
    refl

pub Contains-from_filter : {X : Type 0} (p : X → Bool) (xs : List X) (x : X) → Contains (filter p xs) x → Contains xs x
Contains-from_filter p [] x (k, within, is) = absurd (omega arith)
Contains-from_filter {X} p (y ∷ ys) x is_in =
    elim (p y) as (λ b. Contains (cond b (y ∷ filter p ys) (filter p ys)) x → Contains (y ∷ ys) x) [
      | true ↦ λ kept. elim (Contains-cons_cases y (filter p ys) x kept) [
        | inl same ↦ (0, omega arith, same)
        | inr later ↦ Contains-there y ys x (Contains-from_filter p ys x later)
      ]
      | false ↦ λ kept. Contains-there y ys x (Contains-from_filter p ys x kept)
    ]
    is_in
