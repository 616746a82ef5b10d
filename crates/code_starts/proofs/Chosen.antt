-- Items of a list with a property, chosen one by one.
use Rattle.std.proofs.Common.{◌≡◌, ◌∙◌, sym, subst, ap, ℕ, ◌+◌, ◌<◌, ⊎_elim, List, [], ◌∷◌, ◌++◌, take, length, slice_index_or, arith}
use Rattle.std.specs.List.{Contains, AllPairs}
use Rattle.std.proofs.lemmas.List.{take_more, take_all, get_or-take, get_or_default, length-take}
use Rattle.std.proofs.lemmas.List.Elements.{Contains-append_left, Contains-push, Contains-push_cases}
use Rattle.std.proofs.lemmas.List.Quantifiers.{all_pairs_push}
use Rattle.rv_code.specs.layout.Lists.{ListsAll}

-- All of the first n items with the property, in the order of the list.
abbrev pub ChosenOf : {A : Type 0} → (A → Type 0) → (A → A → Type 0) → List A → ℕ → List A → Type 0
ChosenOf P R xs n chosen = ListsAll (λ x. Contains (take n xs) x × P x) R chosen

-- The first n items are before item n.
before : {A : Type 0} (R : A → A → Type 0) (xs : List A) (n : ℕ) (y x d : A) → AllPairs R xs → n < length xs →
    x ≡ slice_index_or xs n d → Contains (take n xs) y → R y x
before R xs n y x d ordered within is (k, low, there) =
    let short : k < n = let len = length-take n xs in omega arith in
    let at : slice_index_or xs k d ≡ y = get_or_default xs k d y (omega arith) ∙ sym (get_or-take n xs k y short) ∙ there in
    subst (R y) (sym is) (subst (λ (z : _). R z (slice_index_or xs n d)) at (ordered k n d short within))

taken : {A : Type 0} (xs : List A) (n : ℕ) (x d : A) → n < length xs → x ≡ slice_index_or xs n d →
    take (n + 1) xs ≡ take n xs ++ x ∷ []
taken xs n x d within is = take_more xs n d within ∙ ap (λ (z : _). take n xs ++ z ∷ []) (sym is)

pub chosen_keep : {A : Type 0} (P : A → Type 0) (R : A → A → Type 0) (xs chosen now : List A) (n : ℕ) (x d : A) → AllPairs R xs →
    n < length xs → x ≡ slice_index_or xs n d → P x → now ≡ chosen ++ x ∷ [] → ChosenOf P R xs n chosen →
    ChosenOf P R xs (n + 1) now
chosen_keep {A} P R xs chosen now n x d ordered within is kept pushed lists =
    subst (λ (ys : List A). ListsAll (λ y. Contains ys y × P y) R now) (sym (taken xs n x d within is))
    (subst (ListsAll (λ y. Contains (take n xs ++ x ∷ []) y × P y) R) (sym pushed) (record {
      only = λ y is_in. ⊎_elim
          (λ early. let (there, holds) = lists.only y early in (Contains-append_left (take n xs) (x ∷ []) y there, holds))
          (λ (same : x ≡ y). (subst (Contains (take n xs ++ x ∷ [])) same (Contains-push (take n xs) x), subst P same kept))
          (Contains-push_cases chosen x y is_in);
      each = λ y (is_in, holds). ⊎_elim
          (λ early. Contains-append_left chosen (x ∷ []) y (lists.each y (early, holds)))
          (λ (same : x ≡ y). subst (Contains (chosen ++ x ∷ [])) same (Contains-push chosen x))
          (Contains-push_cases (take n xs) x y is_in);
      ordered = all_pairs_push R chosen x lists.ordered (λ k d' inside.
          let y = slice_index_or chosen k d' in
          before R xs n y x d ordered within is (lists.only y (k, inside, get_or_default chosen k y d' inside)).0);
    }))

pub chosen_skip : {A : Type 0} (P : A → Type 0) (R : A → A → Type 0) (xs chosen : List A) (n : ℕ) (x d : A) → n < length xs →
    x ≡ slice_index_or xs n d → (P x → ⊥) → ChosenOf P R xs n chosen → ChosenOf P R xs (n + 1) chosen
chosen_skip {A} P R xs chosen n x d within is dropped lists =
    subst (λ (ys : List A). ListsAll (λ y. Contains ys y × P y) R chosen) (sym (taken xs n x d within is)) (record {
      only = λ y is_in. let (there, holds) = lists.only y is_in in (Contains-append_left (take n xs) (x ∷ []) y there, holds);
      each = λ y (is_in, holds). ⊎_elim
          (λ early. lists.each y (early, holds))
          (λ (same : x ≡ y). absurd (dropped (subst P (sym same) holds)))
          (Contains-push_cases (take n xs) x y is_in);
      ordered = lists.ordered;
    })

-- All items.
pub chosen_all : {A : Type 0} (P : A → Type 0) (R : A → A → Type 0) (xs chosen : List A) (n : ℕ) → n ≡ length xs →
    ((x : A) → P x → Contains xs x) → ChosenOf P R xs n chosen → ListsAll P R chosen
chosen_all {A} P R xs chosen n all listed lists = record {
  only = λ x is_in. (lists.only x is_in).1;
  each = λ x holds. lists.each x
      (subst (λ (ys : List A). Contains ys x) (sym (take_all n xs (omega arith))) (listed x holds), holds);
  ordered = lists.ordered;
}
