-- The lowest place of a bad item in a list, item by item.
use Rattle.std.proofs.Common.{◌≡◌, ◌∙◌, sym, subst, refl, ℕ, ◌+◌, ◌<◌, ◌⊎◌, inl, inr, ⊎_elim, Bool, Option, Some, None, List, []}
use Rattle.std.proofs.Common.{◌∷◌, ◌++◌, take, length, slice_index_or, IsTrue, if◌then◌else◌, ◌↔◌, arith}
use Rattle.std.proofs.lemmas.List.{take_more, take_all}
use Rattle.std.proofs.lemmas.List.Elements.{Contains-append_left, Contains-push, Contains-push_cases}
use Rattle.elf_image.specs.faults.LowestPlace.{IsLowest, lower}
use Rattle.elf_image.proofs.LowestPlaces.{IsLowest-same, IsLowest-none, IsLowest-lower, IsLowest-place}
use Rattle.rv_reloc.specs.Places.{IsPlaceOf}

pub IsPlaceOf-begin : {A : Type 0} (place_of : A → ℕ) (IsBad : A → Type 0) → IsLowest (IsPlaceOf place_of IsBad []) None
IsPlaceOf-begin place_of IsBad = IsLowest-none (λ p is. let within = is.listed.1 in absurd (omega arith))

more : {A : Type 0} (place_of : A → ℕ) (IsBad : A → Type 0) (xs : List A) (x : A) (p : ℕ) → IsPlaceOf place_of IsBad xs p
    ⊎ (IsBad x × (p ≡ place_of x)) → IsPlaceOf place_of IsBad (xs ++ x ∷ []) p
more place_of IsBad xs x p (inl is) =
    record { item = is.item; listed = Contains-append_left xs (x ∷ []) is.item is.listed; bad = is.bad; place_is = is.place_is }
more place_of IsBad xs x p (inr is) = record { item = x; listed = Contains-push xs x; bad = is.0; place_is = sym is.1 }

fewer : {A : Type 0} (place_of : A → ℕ) (IsBad : A → Type 0) (xs : List A) (x : A) (p : ℕ) →
    IsPlaceOf place_of IsBad (xs ++ x ∷ []) p → IsPlaceOf place_of IsBad xs p ⊎ (IsBad x × (p ≡ place_of x))
fewer {A} place_of IsBad xs x p is =
    ⊎_elim
    (λ before. inl (record { item = is.item; listed = before; bad = is.bad; place_is = is.place_is }))
    (λ (same : x ≡ is.item). inr (subst IsBad (sym same) is.bad, sym (subst (λ (y : A). place_of y ≡ p) (sym same) is.place_is)))
    (Contains-push_cases xs x is.item is.listed)

-- One more item.
pub IsPlaceOf-next : {A : Type 0} (place_of : A → ℕ) (IsBad : A → Type 0) (xs : List A) (i : ℕ) (x : A)
    (a b r : Option ℕ) (holds : Bool)
    (at : ℕ) → i < length xs → x ≡ slice_index_or xs i x → r ≡ lower a b → IsLowest (IsPlaceOf place_of IsBad (take i xs)) a →
    b ≡ (if holds then Some at else None) → at ≡ place_of x → IsTrue holds ↔ IsBad x →
    IsLowest (IsPlaceOf place_of IsBad (take (i + 1) xs)) r
IsPlaceOf-next {A} place_of IsBad xs i x a b r holds at within is joined before here same test =
    let taken : take (i + 1) xs ≡ take i xs ++ x ∷ [] = take_more xs i x within ∙ (let back = sym is in rw back refl) in
    let both = IsLowest-lower a b r joined before (IsLowest-place (IsBad x) holds at (place_of x) b here same test) in
    subst (λ (ys : List A). IsLowest (IsPlaceOf place_of IsBad ys) r) (sym taken)
    (IsLowest-same r (more place_of IsBad (take i xs) x) (fewer place_of IsBad (take i xs) x) both)

-- All items.
pub IsPlaceOf-all : {A : Type 0} (place_of : A → ℕ) (IsBad : A → Type 0) (xs : List A) (i : ℕ) (r : Option ℕ) → i ≡ length xs →
    IsLowest (IsPlaceOf place_of IsBad (take i xs)) r → IsLowest (IsPlaceOf place_of IsBad xs) r
IsPlaceOf-all {A} place_of IsBad xs i r all is =
    subst (λ (ys : List A). IsLowest (IsPlaceOf place_of IsBad ys) r) (take_all i xs (omega arith)) is
