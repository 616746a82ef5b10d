-- Lists whose elements are related pairwise, with one more element.
use Rattle.std.proofs.Common.{◌≡◌, sym, ap, subst, ℕ, ◌+◌, ◌-◌, ◌<◌, ◌≤◌, ⊎_elim, Bool, true, false, cond, List, [], ◌∷◌, ◌++◌, length}
use Rattle.std.proofs.Common.{get_or, take, arith, ◌∙◌, Some, length-append}
use Rattle.std.specs.Prelude.{filter, slice_get}
use Rattle.std.proofs.lemmas.Bool.{cases_lt}
use Rattle.std.proofs.lemmas.List.{append-nil, get_or_append_left, get_or-append_right}
use Rattle.std.proofs.lemmas.List.Elements.{filter_more}
use Rattle.std.proofs.lemmas.Option.{get_or_from_slice_get, slice_get-get_or, slice_get_within}

pub filter-taken : {A : Type 0} (p : A → Bool) (xs : List A) (i : ℕ) (d : A) → i < length xs → p (get_or xs i d) ≡ true →
    filter p (take (i + 1) xs) ≡ filter p (take i xs) ++ get_or xs i d ∷ []
filter-taken p xs i d within yes_it =
    filter_more p xs i d within ∙ ap (λ (b : Bool). filter p (take i xs) ++ cond b (get_or xs i d ∷ []) []) yes_it

pub filter-left : {A : Type 0} (p : A → Bool) (xs : List A) (i : ℕ) (d : A) → i < length xs → p (get_or xs i d) ≡ false →
    filter p (take (i + 1) xs) ≡ filter p (take i xs)
filter-left p xs i d within no_it =
    filter_more p xs i d within ∙ ap (λ (b : Bool). filter p (take i xs) ++ cond b (get_or xs i d ∷ []) []) no_it
    ∙ append-nil (filter p (take i xs))

-- A list whose elements are related to those of another by index, and one more element.
pub each-pushed : {A B : Type 0} (R : ℕ → A → B → Type 0) (xs : List A) (ys : List B) (n : ℕ) (y : B) → length ys ≡ n →
    ((i : ℕ) (x : A) (z : B) → slice_get xs i ≡ Some x → slice_get ys i ≡ Some z → R i x z) →
    ((x : A) → slice_get xs n ≡ Some x → R n x y) →
    (i : ℕ) (x : A) (z : B) → slice_get xs i ≡ Some x → slice_get (ys ++ y ∷ []) i ≡ Some z → R i x z
each-pushed {A} {B} R xs ys n y size old new i x z is_x is_z =
    let within = slice_get_within (ys ++ y ∷ []) i z is_z in
    let long = length-append ys (y ∷ []) in
    ⊎_elim (λ (low : i < n). old i x z is_x (before low)) (λ (high : n ≤ i). there high (omega arith)) (cases_lt i n)
  where
    before : i < n → slice_get ys i ≡ Some z
    before low =
        slice_get-get_or ys i z (omega arith)
        ∙ ap Some (sym (get_or_append_left ys (y ∷ []) z i (omega arith)) ∙ get_or_from_slice_get (ys ++ y ∷ []) i z z is_z)

    there : n ≤ i → i ≡ n → R i x z
    there high at =
        let none : i - n ≡ 0 = omega arith in
        let is : y ≡ z =
        sym (get_or-append_right ys (y ∷ []) n i z size high ∙ ap (λ (k : ℕ). get_or (y ∷ []) k z) none)
        ∙ get_or_from_slice_get (ys ++ y ∷ []) i z z is_z in
        subst (λ (w : B). R i x w) is
        (subst (λ (k : ℕ). R k x y) (sym at) (new x (subst (λ (k : ℕ). slice_get xs k ≡ Some x) at is_x)))
