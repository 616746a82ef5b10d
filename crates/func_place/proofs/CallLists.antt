-- Lists that are made item by item, for the items read so far.
use Rattle.std.proofs.Common.{ℕ, ◌≡◌, ◌<◌, ◌+◌, List, [], ◌∷◌, ◌++◌, length, take, get_or, Option, Some, None, refl, sym, ◌∙◌, ap}
use Rattle.std.specs.List.{filter_map}
use Rattle.std.proofs.lemmas.List.{take_more, append-nil}
use Rattle.std.proofs.lemmas.List.Elements.{filter_map-append}

pub given_some : {A B : Type 0} (h : A → Option B) (xs : List A) (i : ℕ) (d : A) (y : B) (ys now : List B) → i < length xs →
    h (get_or xs i d) ≡ Some y → ys ≡ filter_map h (take i xs) → now ≡ ys ++ y ∷ [] → now ≡ filter_map h (take (i + 1) xs)
given_some {A} {B} h xs i d y ys now lt is was more =
    let one : filter_map h (get_or xs i d ∷ []) ≡ y ∷ [] = rw is refl in
    more ∙ ap (λ (zs : List B). zs ++ y ∷ []) was ∙ sym (ap (filter_map h) (take_more xs i d lt)
    ∙ filter_map-append h (take i xs) (get_or xs i d ∷ []) ∙ ap (λ (zs : List B). filter_map h (take i xs) ++ zs) one)

pub given_none : {A B : Type 0} (h : A → Option B) (xs : List A) (i : ℕ) (d : A) (ys : List B) → i < length xs →
    h (get_or xs i d) ≡ None → ys ≡ filter_map h (take i xs) → ys ≡ filter_map h (take (i + 1) xs)
given_none {A} {B} h xs i d ys lt is was =
    let none : filter_map h (get_or xs i d ∷ []) ≡ [] = rw is refl in
    was ∙ sym (ap (filter_map h) (take_more xs i d lt) ∙ filter_map-append h (take i xs) (get_or xs i d ∷ [])
    ∙ ap (λ (zs : List B). filter_map h (take i xs) ++ zs) none ∙ append-nil (filter_map h (take i xs)))
