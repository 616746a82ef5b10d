-- A list that gains the members of a set while a loop goes over the items of another list.
use Rattle.std.proofs.Common.{◌≡◌, ◌∙◌, sym, subst, ap, ℕ, ◌+◌, ◌<◌, ◌⊎◌, inl, inr, ⊎_elim, ◌↔◌, List, [], ◌∷◌, ◌++◌, take}
use Rattle.std.proofs.Common.{length, slice_index_or, arith}
use Rattle.std.specs.List.{Contains, Any}
use Rattle.std.proofs.lemmas.List.{take_more, take_all}
use Rattle.std.proofs.lemmas.List.Elements.{Contains-append_left, Contains-push, Contains-push_cases}
use Rattle.std.proofs.lemmas.List.Quantifiers.{Any-push}
use Rattle.rb_bytes.specs.Lists.{Gains}

pub Any-left : {A : Type 0} (P : A → Type 0) (xs ys : List A) → Any P xs → Any P (xs ++ ys)
Any-left P xs ys (k, x, within, is, holds) =
    let (j, inside, there) = Contains-append_left xs ys x (k, within, is) in
    (j, x, inside, there, holds)

pub Any-push_cases : {A : Type 0} (P : A → Type 0) (xs : List A) (y : A) → Any P (xs ++ y ∷ []) → Any P xs ⊎ P y
Any-push_cases P xs y (k, x, within, is, holds) =
    ⊎_elim
    (λ (j, inside, there). inl (j, x, inside, there, holds))
    (λ (same : y ≡ x). inr (subst P (sym same) holds))
    (Contains-push_cases xs y x (k, within, is))

-- The members that an item of the list gives.
abbrev pub Given : {A B : Type 0} → (A → B → Type 0) → List A → B → Type 0
Given Gives items a = Any (λ x. Gives x a) items

pub gains_next : {A B : Type 0} (Gives : A → B → Type 0) (items : List A) (i : ℕ) (x d : A) (xs was now : List B) →
    i < length items → x ≡ slice_index_or items i d → Gains was now (Gives x) → Gains xs was (Given Gives (take i items)) →
    Gains xs now (Given Gives (take (i + 1) items))
gains_next {A} Gives items i x d xs was now within is more first =
    subst (λ (ys : List A). Gains xs now (Given Gives ys)) (sym taken) (λ a.
    let (out, back) = first a in
    let (out', back') = more a in (
      (λ in_now. ⊎_elim
          (λ in_was. ⊎_elim (λ in_xs. inl in_xs) (λ any. inr (Any-left (λ y. Gives y a) (take i items) (x ∷ []) any))
          (out in_was))
          (λ gives. inr (Any-push (λ y. Gives y a) (take i items) x gives))
          (out' in_now)),
      ⊎_elim
          (λ in_xs. back' (inl (back (inl in_xs))))
          (λ any. ⊎_elim (λ early. back' (inl (back (inr early)))) (λ gives. back' (inr gives))
          (Any-push_cases (λ y. Gives y a) (take i items) x any)),
    ))
  where
    taken : take (i + 1) items ≡ take i items ++ x ∷ []
    taken = take_more items i d within ∙ ap (λ (z : A). take i items ++ z ∷ []) (sym is)

pub gains_all : {A B : Type 0} (Gives : A → B → Type 0) (items : List A) (i : ℕ) (xs now : List B) → i ≡ length items →
    Gains xs now (Given Gives (take i items)) → Gains xs now (Given Gives items)
gains_all {A} Gives items i xs now all = subst (λ (ys : List A). Gains xs now (Given Gives ys)) (take_all i items (omega arith))

-- A list with one more member.
pub gains_one : {B : Type 0} (xs now : List B) (x : B) → now ≡ xs ++ x ∷ [] → Gains xs now (λ a. x ≡ a)
gains_one {B} xs now x is a = (
  (λ in_now. Contains-push_cases xs x a (subst (λ (ys : List B). Contains ys a) is in_now)),
  (λ either. subst (λ (ys : List B). Contains ys a) (sym is) (⊎_elim
      (λ in_xs. Contains-append_left xs (x ∷ []) a in_xs)
      (λ (same : x ≡ a). subst (Contains (xs ++ x ∷ [])) same (Contains-push xs x))
      either)),
)

pub gains_nothing : {B : Type 0} (xs : List B) (Is : B → Type 0) → ((a : B) → Is a → ⊥) → Gains xs xs Is
gains_nothing xs Is none a = ((λ is. inl is), ⊎_elim (λ is. is) (λ is. absurd (none a is)))

pub gains_same : {B : Type 0} (xs now : List B) (P Q : B → Type 0) → ((a : B) → P a ↔ Q a) → Gains xs now P → Gains xs now Q
gains_same xs now P Q same gains a =
    let (out, back) = gains a in (
      (λ in_now. ⊎_elim (λ in_xs. inl in_xs) (λ is. inr ((same a).0 is)) (out in_now)),
      (λ either. back (⊎_elim (λ in_xs. inl in_xs) (λ is. inr ((same a).1 is)) either)),
    )

pub gains_both : {B : Type 0} (xs was now : List B) (P Q : B → Type 0) → Gains xs was P → Gains was now Q →
    Gains xs now (λ a. P a ⊎ Q a)
gains_both xs was now P Q first more a =
    let (out, back) = first a in
    let (out', back') = more a in (
      (λ in_now. ⊎_elim (λ in_was. ⊎_elim (λ in_xs. inl in_xs) (λ is. inr (inl is)) (out in_was)) (λ is. inr (inr is))
          (out' in_now)),
      ⊎_elim
          (λ in_xs. back' (inl (back (inl in_xs))))
          (λ either. ⊎_elim (λ is. back' (inl (back (inr is)))) (λ is. back' (inr is)) either),
    )
