-- Attributes that are read follow one another.
use Rattle.std.proofs.Common.{◌≡◌, ◌≤◌, ◌+◌, ◌-◌, ◌++◌, ◌∙◌, ℕ, List, [], ◌∷◌, Ok, Err, refl, ap, sym, subst, arith, length, length-append}
use Rattle.table_core.specs.AttributeForms.{shape_of}
use Rattle.table_core.proofs.Numbers.{same_value, same_left}
use Rattle.dw_unit.specs.declared.declaration.Spec.{Spec}
use Rattle.dw_unit.specs.declared.entry.Attr.{Attr}
use Rattle.dw_unit.specs.Trouble.{Read}
use Rattle.dw_unit.specs.CompUnits.{attr_at, attrs_at}
use Rattle.dw_unit.specs.EntryChanges.{IsPlaced, ArePlaced}
use Rattle.dw_unit.proofs.AttrFronts.{IsAttr, attr_front}
use Rattle.dw_unit.proofs.Readers.{after_attr, attrs_of_attr}
use Rattle.dw_unit.proofs.Rewrites.{number_len}

pub placed_less : (from less to : ℕ) (attrs : List Attr) → less ≤ from → ArePlaced from to attrs → ArePlaced less to attrs
placed_less from less to [] h p = omega arith
placed_less from less to (a ∷ attrs) h p = let g = p.0.behind in
    (record { behind = omega arith; address = p.0.address; offset = p.0.offset }, p.1)

pub placed_within : (from to : ℕ) (attrs : List Attr) → ArePlaced from to attrs → from ≤ to
placed_within from to [] p = p
placed_within from to (a ∷ attrs) p = let g = p.0.behind in let h = placed_within (a.place + a.len) to attrs p.1 in omega arith

module _ (end d : ℕ) where
  one_placed : (s : Spec) (a : Attr) (l1 l2 : List ℕ) → length l1 ≤ end → IsAttr end s a l1 l2 → IsPlaced (end - length l1) a
  one_placed s a l1 l2 h i =
      let size : length l1 ≡ length i.lead + length (i.body ++ l2) = ap length i.is ∙ length-append i.lead (i.body ++ l2) in
      let p = i.place in
      record {
        behind = omega arith;
        address = λ e. number_len end 8 s a l1 l2 i (ap shape_of e);
        offset = λ e. number_len end 4 s a l1 l2 i (ap shape_of e);
      }

  ends : (s : Spec) (a : Attr) (l1 l2 : List ℕ) → length l1 ≤ end → IsAttr end s a l1 l2 → a.place + a.len ≡ end - length l2
  ends s a l1 l2 h i =
      let size : length l1 ≡ length i.lead + length (i.body ++ l2) = ap length i.is ∙ length-append i.lead (i.body ++ l2) in
      let more = length-append i.body l2 in
      let p = i.place in
      let l = i.len in
      omega arith

  less : (s : Spec) (a : Attr) (l1 l2 : List ℕ) → IsAttr end s a l1 l2 → length l2 ≤ length l1
  less s a l1 l2 i =
      let size : length l1 ≡ length i.lead + length (i.body ++ l2) = ap length i.is ∙ length-append i.lead (i.body ++ l2) in
      let more = length-append i.body l2 in
      omega arith

  by_rest : (s : Spec) (specs : List Spec) (attrs : List Attr) (a : Attr) (l1 l2 l3 : List ℕ) (found : Read (List Attr)) →
      length l1 ≤ end → IsAttr end s a l1 l2 →
      attrs_at end d specs l2 ≡ found → after_attr a found ≡ Ok (attrs, l3) →
      ((got : List Attr) (l : List ℕ) → length l2 ≤ end → attrs_at end d specs l2 ≡ Ok (got, l) →
      ArePlaced (end - length l2) (end - length l) got) →
      ArePlaced (end - length l1) (end - length l3) attrs
  by_rest s specs attrs a l1 l2 l3 (Err t) h i is e ih = absurd (cc)
  by_rest s specs attrs a l1 l2 l3 (Ok got) h i is e ih =
      let k = less s a l1 l2 i in
      let rest : ArePlaced (end - length l2) (end - length got.1) got.0 = ih got.0 got.1 (omega arith) is in
      subst (λ (l : List ℕ). ArePlaced (end - length l1) (end - length l) attrs) (same_left _ _ _ _ e)
      (subst (λ (xs : List Attr). ArePlaced (end - length l1) (end - length got.1) xs) (same_value _ _ _ _ e)
      (one_placed s a l1 l2 h i, subst (λ (n : ℕ). ArePlaced n (end - length got.1) got.0) (sym (ends s a l1 l2 h i)) rest))

  by_first : (s : Spec) (specs : List Spec) (attrs : List Attr) (l1 l3 : List ℕ) (found : Read Attr) → length l1 ≤ end →
      attr_at end d s l1 ≡ found →
      attrs_of_attr end d specs found ≡ Ok (attrs, l3) →
      ((l2 : List ℕ) (got : List Attr) (l : List ℕ) → length l2 ≤ end → attrs_at end d specs l2 ≡ Ok (got, l) →
      ArePlaced (end - length l2) (end - length l) got) →
      ArePlaced (end - length l1) (end - length l3) attrs
  by_first s specs attrs l1 l3 (Err t) h is e ih = absurd (cc)
  by_first s specs attrs l1 l3 (Ok got) h is e ih =
      by_rest s specs attrs got.0 l1 got.1 l3 (attrs_at end d specs got.1) h (attr_front end d s got.0 l1 got.1 is) refl e (ih got.1)

  pub attrs_placed : (specs : List Spec) (attrs : List Attr) (l1 l2 : List ℕ) → length l1 ≤ end →
      attrs_at end d specs l1 ≡ Ok (attrs, l2) →
      ArePlaced (end - length l1) (end - length l2) attrs
  attrs_placed [] attrs l1 l2 h e =
      let same : length l1 ≡ length l2 = ap length (same_left _ _ _ _ e) in
      subst (λ (xs : List Attr). ArePlaced (end - length l1) (end - length l2) xs) (same_value _ _ _ _ e) (omega arith)
  attrs_placed (s ∷ specs) attrs l1 l2 h e = by_first s specs attrs l1 l2 (attr_at end d s l1) h refl e
      (λ l got m. attrs_placed specs got l m)
