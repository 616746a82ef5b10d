-- Results for the items of a list, item by item.
use Rattle.std.proofs.Common.{◌≡◌, ◌∙◌, sym, subst, ap, ℕ, ◌+◌, ◌<◌, ◌≤◌, ⊎_elim, List, [], ◌∷◌, ◌++◌, take, length}
use Rattle.std.proofs.Common.{slice_index_or, Option, Some, None, IfSome, append-nil, map}
use Rattle.std.specs.List.{Contains}
use Rattle.std.specs.Option.{option_map, option_to_list}
use Rattle.std.proofs.lemmas.List.{take_more, take_all, map-append}
use Rattle.std.proofs.lemmas.List.Elements.{Contains-append_left, Contains-push, Contains-push_cases}
use Rattle.rv_reloc.specs.Finds.{AreFound}
use Rattle.rb_bytes.proofs.Members.{Contains-nil}

pub AreFound-begin : {A B : Type 0} (Has : A → B → Type 0) (items : List A) (found : List B) → found ≡ [] →
    AreFound Has (take 0 items) found
AreFound-begin {A} {B} Has items found none = record {
  only = λ b listed. absurd (Contains-nil b (subst (λ (bs : List B). Contains bs b) none listed));
  each = λ a b listed has. absurd (Contains-nil a listed);
}

pushed : {A B : Type 0} (Has : A → B → Type 0) (items : List A) (x : A) (found : List B) (o : Option B) → IfSome o (Has x) →
    ((b : B) → Has x b → o ≡ Some b) → AreFound Has items found → AreFound Has (items ++ x ∷ []) (found ++ option_to_list o)
pushed {A} {B} Has items x found None is only are = record {
  only = λ b listed.
      let (a, has_a, has) = are.only b (subst (λ (bs : List B). Contains bs b) (append-nil found) listed) in
      (a, Contains-append_left items (x ∷ []) a has_a, has);
  each = λ a b listed has. subst (λ (bs : List B). Contains bs b) (sym (append-nil found))
      (⊎_elim
      (λ before. are.each a b before has)
      (λ (same : x ≡ a). let e : None ≡ Some b = only b (subst (λ (y : A). Has y b) (sym same) has) in absurd (cc))
      (Contains-push_cases items x a listed));
}
pushed {A} {B} Has items x found (Some m) is only are = record {
  only = λ b listed. ⊎_elim
      (λ before. let (a, has_a, has) = are.only b before in (a, Contains-append_left items (x ∷ []) a has_a, has))
      (λ (same : m ≡ b). (x, Contains-push items x, subst (Has x) same is))
      (Contains-push_cases found m b listed);
  each = λ a b listed has. ⊎_elim
      (λ before. Contains-append_left found (m ∷ []) b (are.each a b before has))
      (λ (same : x ≡ a).
      let e : Some m ≡ Some b = only b (subst (λ (y : A). Has y b) (sym same) has) in
      let found_is : m ≡ b = cc in
      subst (Contains (found ++ m ∷ [])) found_is (Contains-push found m))
      (Contains-push_cases items x a listed);
}

pub AreFound-next : {A B : Type 0} (Has : A → B → Type 0) (items : List A) (i : ℕ) (x : A) (found now : List B) (o : Option B) →
    i < length items → x ≡ slice_index_or items i x → now ≡ found ++ option_to_list o → IfSome o (Has x) →
    ((b : B) → Has x b → o ≡ Some b) → AreFound Has (take i items) found → AreFound Has (take (i + 1) items) now
AreFound-next {A} {B} Has items i x found now o within at push is only are =
    let taken : take (i + 1) items ≡ take i items ++ x ∷ [] = take_more items i x within
    ∙ ap (λ (r : A). take i items ++ r ∷ []) (sym at) in
    subst (λ (xs : List A). AreFound Has xs now) (sym taken)
    (subst (AreFound Has (take i items ++ x ∷ [])) (sym push) (pushed Has (take i items) x found o is only are))

pub AreFound-all : {A B : Type 0} (Has : A → B → Type 0) (items : List A) (i : ℕ) (found : List B) → length items ≤ i →
    AreFound Has (take i items) found → AreFound Has items found
AreFound-all {A} Has items i found all are = subst (λ (xs : List A). AreFound Has xs found) (take_all i items all) are

pub map-pushed : {A B : Type 0} (f : A → B) (found now : List A) (o : Option A) → now ≡ found ++ option_to_list o →
    map f now ≡ map f found ++ option_to_list (option_map f o)
map-pushed f found now None push = ap (map f) (push ∙ append-nil found) ∙ sym (append-nil (map f found))
map-pushed f found now (Some x) push = ap (map f) push ∙ map-append f found (x ∷ [])
