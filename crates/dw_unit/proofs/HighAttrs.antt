-- Attributes of high addresses that can be changed have room for the offset of a list.
use Rattle.std.proofs.Common.{◌≡◌, ◌≤◌, ◌∙◌, ⊎_elim, ℕ, List, [], ◌∷◌, Bool, true, false, not, Ok, Err, refl, ap, sym, subst, arith}
use Rattle.std.specs.Prelude.{◌==◌, ◌&&◌, ◌⊎◌}
use Rattle.std.specs.List.{list_any}
use Rattle.std.proofs.lemmas.Bool.{eq-eqb, or_parts}
use Rattle.std.proofs.lemmas.List.Elements.{All-cons, All-nil}
use Rattle.table_core.specs.AttributeForms.{shape_of}
use Rattle.table_core.proofs.Numbers.{same_value}
use Rattle.dw_unit.specs.declared.attribute.TheConstants.{DW_AT_high_pc}
use Rattle.dw_unit.specs.declared.declaration.Spec.{Spec}
use Rattle.dw_unit.specs.declared.entry.Attr.{Attr}
use Rattle.dw_unit.specs.Trouble.{Read}
use Rattle.dw_unit.specs.CompUnits.{Entry, UnitBounds, attr_at, attrs_at}
use Rattle.dw_unit.specs.Declarations.{has_bad_high, is_high_form}
use Rattle.dw_unit.specs.EntryChanges.{HasRoom, HaveRoom}
use Rattle.dw_unit.proofs.AttrFronts.{IsAttr, attr_front}
use Rattle.dw_unit.proofs.Changeable.{and_right, declared_is, fine_high, high_forms, not_any}
use Rattle.dw_unit.proofs.ReadEntries.{IsReadEntry}
use Rattle.dw_unit.proofs.Readers.{after_attr, attrs_of_attr}
use Rattle.dw_unit.proofs.Rewrites.{IsHigh, high_at}

module _ (end d : ℕ) where
  abbrev bad : Spec → Bool
  bad s = s.name == DW_AT_high_pc && not (is_high_form s.form)

  by_form : (s : Spec) (a : Attr) (left rest : List ℕ) → IsAttr end s a left rest → (s.form ≡ 6) ⊎ ((s.form ≡ 7) ⊎ (s.form ≡ 1)) →
      4 ≤ a.len
  by_form s a left rest i forms = ⊎_elim
      (λ (f : s.form ≡ 6). let high : IsHigh 4 end a left rest = high_at 4 end s a left rest i (ap (λ (x : ℕ). x == 22) f)
      (ap shape_of f) in let n = high.len in omega arith)
      (λ (g : (s.form ≡ 7) ⊎ (s.form ≡ 1)). ⊎_elim
      (λ (f : s.form ≡ 7). let high : IsHigh 8 end a left rest = high_at 8 end s a left rest i (ap (λ (x : ℕ). x == 22) f)
      (ap shape_of f) in let n = high.len in omega arith)
      (λ (f : s.form ≡ 1). let high : IsHigh 8 end a left rest = high_at 8 end s a left rest i (ap (λ (x : ℕ). x == 22) f)
      (ap shape_of f) in let n = high.len in omega arith)
      g)
      forms

  one : (s : Spec) (a : Attr) (left rest : List ℕ) → IsAttr end s a left rest → bad s ≡ false → HasRoom a
  one s a left rest i fine named =
      let name : (s.name == DW_AT_high_pc) ≡ true = eq-eqb s.name DW_AT_high_pc (sym i.name ∙ named) in
      by_form s a left rest i
      (high_forms s.form (s.form == 6) (s.form == 7) (s.form == 1) refl refl refl
      (and_right (s.name == DW_AT_high_pc) (not (is_high_form s.form)) fine name))

  by_rest : (s : Spec) (specs : List Spec) (attrs : List Attr) (a : Attr) (left l1 rest : List ℕ) (found : Read (List Attr)) →
      list_any bad (s ∷ specs) ≡ false →
      attr_at end d s left ≡ Ok (a, l1) → attrs_at end d specs l1 ≡ found → after_attr a found ≡ Ok (attrs, rest) →
      ((got : List Attr) (r : List ℕ) → attrs_at end d specs l1 ≡ Ok (got, r) → list_any bad specs ≡ false → HaveRoom got) →
      HaveRoom attrs
  by_rest s specs attrs a left l1 rest (Err t) fine read is f ih = absurd (cc)
  by_rest s specs attrs a left l1 rest (Ok got) fine read is f ih =
      let p = or_parts (bad s) (list_any bad specs) fine in
      subst HaveRoom (same_value _ _ _ _ f)
      (All-cons HasRoom a got.0 (one s a left l1 (attr_front end d s a left l1 read) p.0) (ih got.0 got.1 is p.1))

  by_first : (s : Spec) (specs : List Spec) (attrs : List Attr) (left rest : List ℕ) (found : Read Attr) →
      list_any bad (s ∷ specs) ≡ false →
      attr_at end d s left ≡ found → attrs_of_attr end d specs found ≡ Ok (attrs, rest) →
      ((l1 : List ℕ) (got : List Attr) (r : List ℕ) → attrs_at end d specs l1 ≡ Ok (got, r) → list_any bad specs ≡ false → HaveRoom got) →
      HaveRoom attrs
  by_first s specs attrs left rest (Err t) fine is f ih = absurd (cc)
  by_first s specs attrs left rest (Ok got) fine is f ih =
      by_rest s specs attrs got.0 left got.1 rest (attrs_at end d specs got.1) fine is refl f (ih got.1)

  attrs_room : (specs : List Spec) (attrs : List Attr) (left rest : List ℕ) → list_any bad specs ≡ false →
      attrs_at end d specs left ≡ Ok (attrs, rest) → HaveRoom attrs
  attrs_room [] attrs left rest fine f = subst HaveRoom (same_value _ _ _ _ f) (All-nil HasRoom)
  attrs_room (s ∷ specs) attrs left rest fine f =
      by_first s specs attrs left rest (attr_at end d s left) fine refl f (λ l1 got r g h. attrs_room specs got l1 r h g)

-- The attributes of an entry that was read, if its table has no bad high addresses.
pub entry_room : (u : UnitBounds) (e : Entry) → list_any has_bad_high u.table.list ≡ false → IsReadEntry u e → HaveRoom e.attrs
entry_room u e none r =
    let fine : has_bad_high e.declaration ≡ false =
    not_any has_bad_high (λ d. d.code == r.code) u.table.list e.declaration none (declared_is u.table r.code e.declaration r.declared) in
    attrs_room u.end e.declaration.place e.declaration.specs e.attrs r.left r.rest (fine_high e.declaration fine) r.attrs
