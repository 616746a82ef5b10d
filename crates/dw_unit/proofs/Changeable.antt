-- The units of a file without faults can be changed in place.
use Rattle.std.proofs.Common.{◌≡◌, ◌<◌, ◌^◌, ◌∙◌, ℕ, List, [], ◌∷◌, Bool, true, false, not, Option, Some, None, Ok, Err, Result, refl, ap}
use Rattle.std.proofs.Common.{subst, arith, inl, inr, unwrap_or}
use Rattle.std.specs.Prelude.{◌==◌, ◌&&◌, ◌||◌, ◌⊎◌, if◌then◌else◌}
use Rattle.std.specs.List.{find, list_any}
use Rattle.std.specs.Option.{option_or}
use Rattle.std.proofs.lemmas.Bool.Decides.{nat_tests}
use Rattle.std.proofs.lemmas.Option.{same_Some}
use Rattle.std.proofs.lemmas.Bool.{or_parts}
use Rattle.table_core.specs.AttributeForms.{shape_of}
use Rattle.table_core.proofs.Numbers.{same_value}
use Rattle.table_core.specs.ReadSteps.{and_so}
use Rattle.table_core.specs.declared.written.TheConstants.{DW_AT_stmt_list}
use Rattle.dw_unit.specs.declared.attribute.TheConstants.{DW_AT_low_pc, DW_AT_high_pc, DW_AT_ranges, DW_AT_rnglists_base}
use Rattle.dw_unit.specs.declared.attribute.TheConstants.{DW_AT_loclists_base, DW_AT_call_return_pc}
use Rattle.dw_unit.specs.declared.trouble.Trouble.{Trouble}
use Rattle.dw_unit.specs.declared.declaration.Spec.{Spec}
use Rattle.dw_unit.specs.declared.entry.Attr.{Attr}
use Rattle.dw_unit.specs.Trouble.{Read, sound_if, when}
use Rattle.dw_unit.specs.Declarations.{Declaration, Table, declared, has_spec, has_bad_high, is_high_form, is_low}
use Rattle.dw_unit.specs.CompUnits.{Entry, UnitBounds, attr_at, attrs_at, declaration_of, are_named_once}
use Rattle.dw_unit.specs.Faults.{is_located}
use Rattle.dw_unit.specs.EntryMoves.{Moves, moved_address, new_list_offset}
use Rattle.dw_unit.specs.Changes.{new_address, new_list, names_base, no_line_unit}
use Rattle.dw_unit.proofs.AttrFronts.{IsAttr, attr_front}
use Rattle.dw_unit.proofs.Readers.{after_attr, attrs_of_attr}
use Rattle.dw_unit.proofs.Rewrites.{IsChangeable, number_len}
use Rattle.dw_unit.proofs.RewrittenEntries.{AreChangeable, CanChange, CanAll}
use Rattle.dw_unit.proofs.ReadEntries.{IsReadEntry, AreReadEntries}

-- New addresses are of 64 bits, new offsets of 32.
pub record AreSmall (m : Moves) : Type 0 where
  pub moved : (a b : ℕ) → moved_address m a ≡ Some b → b < 2 ^ 64
  pub call_end : (a b : ℕ) → m.call_end a ≡ Some b → b < 2 ^ 64
  pub lists : (entry attr o : ℕ) → new_list_offset m.lists entry attr ≡ Some o → o < 2 ^ 32

equal_of : (x y : ℕ) → (x == y) ≡ true → x ≡ y
equal_of x y f = grind (arith, nat_tests)

pub high_forms : (form : ℕ) (b c d : Bool) → (form == 6) ≡ b → (form == 7) ≡ c → (form == 1) ≡ d → not (b || c || d) ≡ false →
    (form ≡ 6) ⊎ ((form ≡ 7) ⊎ (form ≡ 1))
high_forms form true c d is6 is7 is1 f = inl (equal_of form 6 is6)
high_forms form false true d is6 is7 is1 f = inr (inl (equal_of form 7 is7))
high_forms form false false true is6 is7 is1 f = inr (inr (equal_of form 1 is1))
high_forms form false false false is6 is7 is1 f = absurd (cc)

pub and_right : (b c : Bool) → (b && c) ≡ false → b ≡ true → c ≡ false
and_right true c f is = f
and_right false c f is = absurd (cc)

module _ (m : Moves) (small : AreSmall m) (own first : Bool) (e : Entry) (a : Attr) where
  call_small : (c r : Option ℕ) (v : ℕ) → m.call_end a.value ≡ c → moved_address m a.value ≡ r → option_or c r ≡ Some v → v < 2 ^ 64
  call_small (Some x) r v is moved_is f = subst (λ (n : ℕ). n < 2 ^ 64) (same_Some x v f) (small.call_end a.value x is)
  call_small None r v is moved_is f = small.moved a.value v (moved_is ∙ f)

  address_small : (b c d : Bool) (v : ℕ) →
      (if b then Some 0 else (if c then None else (if d then option_or (m.call_end a.value) (moved_address m a.value) else moved_address m
      a.value))) ≡ Some v → v < 2 ^ 64
  address_small true c d v f = subst (λ (n : ℕ). n < 2 ^ 64) (same_Some 0 v f) (omega arith)
  address_small false true d v f = absurd (cc)
  address_small false false true v f = call_small (m.call_end a.value) (moved_address m a.value) v refl refl f
  address_small false false false v f = small.moved a.value v f

  unit_small : (o : Option ℕ) → new_list_offset m.lists a.value DW_AT_stmt_list ≡ o → unwrap_or o no_line_unit < 2 ^ 32
  unit_small None is = omega arith
  unit_small (Some x) is = small.lists a.value DW_AT_stmt_list x is

  list_small : (b c d : Bool) (v : ℕ) →
      (if b then Some (unwrap_or (new_list_offset m.lists a.value DW_AT_stmt_list) no_line_unit)
      else (if c then new_list_offset m.lists e.place a.name else (if d then new_list_offset m.lists e.place a.name else None))) ≡ Some v
      → v < 2 ^ 32
  list_small true c d v f =
      subst (λ (n : ℕ). n < 2 ^ 32) (same_Some (unwrap_or (new_list_offset m.lists a.value DW_AT_stmt_list) no_line_unit) v f)
      (unit_small (new_list_offset m.lists a.value DW_AT_stmt_list) refl)
  list_small false true d v f = small.lists e.place a.name v f
  list_small false false true v f = small.lists e.place a.name v f
  list_small false false false v f = absurd (cc)

  value_small : (end v : ℕ) (s : Spec) (left rest : List ℕ) → IsAttr end s a left rest → (b c : Bool) → (a.form == 1) ≡ b →
      (a.form == 23) ≡ c →
      (if b then new_address m own e a else (if c then new_list m first e a else None)) ≡ Some v → v < 256 ^ a.len
  value_small end v s left rest i true c is1 is23 f =
      let len_is : a.len ≡ 8 = number_len end 8 s a left rest i (ap shape_of (equal_of a.form 1 is1)) in
      let low : v < 2 ^ 64 = address_small (a.name == DW_AT_low_pc && own && has_spec DW_AT_high_pc e.declaration) (names_base a.name)
      (a.name == DW_AT_call_return_pc) v f in
      rw len_is (omega arith)
  value_small end v s left rest i false true is1 is23 f =
      let len_is : a.len ≡ 4 = number_len end 4 s a left rest i (ap shape_of (equal_of a.form 23 is23)) in
      let low : v < 2 ^ 32 = list_small (a.name == DW_AT_stmt_list) (a.name == DW_AT_ranges || is_located a.name)
      ((a.name == DW_AT_rnglists_base || a.name == DW_AT_loclists_base) && first) v f in
      rw len_is (omega arith)
  value_small end v s left rest i false false is1 is23 f = absurd (cc)

  ranges_small : (o : Option ℕ) → new_list_offset m.lists e.place DW_AT_ranges ≡ o → unwrap_or o 0 < 256 ^ 4
  ranges_small None is = omega arith
  ranges_small (Some x) is = let low : x < 2 ^ 32 = small.lists e.place DW_AT_ranges x is in omega arith

  -- A pair that is no bad high address.
  abbrev pub is_fine : Spec → Bool
  is_fine s = s.name == DW_AT_high_pc && not (is_high_form s.form)

  pub can_change_attr : (end : ℕ) (s : Spec) (left rest : List ℕ) → IsAttr end s a left rest → is_fine s ≡ false →
      IsChangeable m own first e s a
  can_change_attr end s left rest i fine = record {
    high = λ is. high_forms s.form (s.form == 6) (s.form == 7) (s.form == 1) refl refl refl
        (and_right (s.name == DW_AT_high_pc) (not (is_high_form s.form)) fine is);
    fits = λ v f. value_small end v s left rest i (a.form == 1) (a.form == 23) refl refl f;
    ranges = ranges_small (new_list_offset m.lists e.place DW_AT_ranges) refl;
  }

module _ (m : Moves) (small : AreSmall m) (own first : Bool) (e : Entry) (end d : ℕ) where
  abbrev bad : Spec → Bool
  bad s = s.name == DW_AT_high_pc && not (is_high_form s.form)

  by_rest : (s : Spec) (specs : List Spec) (attrs : List Attr) (a : Attr) (left l1 rest : List ℕ) (found : Read (List Attr)) →
      list_any bad (s ∷ specs) ≡ false →
      attr_at end d s left ≡ Ok (a, l1) → attrs_at end d specs l1 ≡ found → after_attr a found ≡ Ok (attrs, rest) →
      ((got : List Attr) (r : List ℕ) → attrs_at end d specs l1 ≡ Ok (got, r) → list_any bad specs ≡ false →
      AreChangeable m own first e specs got) →
      AreChangeable m own first e (s ∷ specs) attrs
  by_rest s specs attrs a left l1 rest (Err t) fine read is f ih = absurd (cc)
  by_rest s specs attrs a left l1 rest (Ok got) fine read is f ih =
      let p = or_parts (bad s) (list_any bad specs) fine in
      subst (λ (l : List Attr). AreChangeable m own first e (s ∷ specs) l) (same_value _ _ _ _ f)
      (can_change_attr m small own first e a end s left l1 (attr_front end d s a left l1 read) p.0, ih got.0 got.1 is p.1)

  by_first : (s : Spec) (specs : List Spec) (attrs : List Attr) (left rest : List ℕ) (found : Read Attr) →
      list_any bad (s ∷ specs) ≡ false →
      attr_at end d s left ≡ found → attrs_of_attr end d specs found ≡ Ok (attrs, rest) →
      ((l1 : List ℕ) (got : List Attr) (r : List ℕ) → attrs_at end d specs l1 ≡ Ok (got, r) → list_any bad specs ≡ false →
      AreChangeable m own first e specs got) →
      AreChangeable m own first e (s ∷ specs) attrs
  by_first s specs attrs left rest (Err t) fine is f ih = absurd (cc)
  by_first s specs attrs left rest (Ok got) fine is f ih =
      by_rest s specs attrs got.0 left got.1 rest (attrs_at end d specs got.1) fine is refl f (ih got.1)

  none_bad : (attrs : List Attr) → [] ≡ attrs → AreChangeable m own first e [] attrs
  none_bad [] f = tt
  none_bad (a ∷ attrs) f = absurd (cc)

  can_change_attrs : (specs : List Spec) (attrs : List Attr) (left rest : List ℕ) → list_any bad specs ≡ false →
      attrs_at end d specs left ≡ Ok (attrs, rest) →
      AreChangeable m own first e specs attrs
  can_change_attrs [] attrs left rest fine f = none_bad attrs (same_value _ _ _ _ f)
  can_change_attrs (s ∷ specs) attrs left rest fine f =
      by_first s specs attrs left rest (attr_at end d s left) fine refl f (λ l1 got r g h. can_change_attrs specs got l1 r h g)

-- Declarations

-- If no declaration of a table passes a test, then no declaration that a code means does.
pub not_any : (test p : Declaration → Bool) (ds : List Declaration) (d : Declaration) → list_any test ds ≡ false → find p ds ≡ Some d →
    test d ≡ false
not_any test p [] d none e = absurd (cc)
not_any test p (x ∷ ds) d none e = by_test (p x) e (not_any test p ds d (or_parts (test x) (list_any test ds) none).1) where
  or_first : Option Declaration → Declaration
  or_first (Some y) = y
  or_first None = x

  by_test : (b : Bool) → (if b then Some x else find p ds) ≡ Some d → (find p ds ≡ Some d → test d ≡ false) → test d ≡ false
  by_test true f ih = subst (λ (y : Declaration). test y ≡ false) (ap or_first f) (or_parts (test x) (list_any test ds) none).0
  by_test false f ih = ih f

pub declared_is : (table : Table) (code : ℕ) (d : Declaration) → declaration_of table code ≡ Ok d → declared table code ≡ Some d
declared_is table code d e = by_found (declared table code) refl e where
  or_else : Declaration → Result Declaration Trouble → Declaration
  or_else x (Ok y) = y
  or_else x (Err t) = x

  by_once : (b : Bool) (x : Declaration) → when b x ≡ Ok d → x ≡ d
  by_once true x f = ap (or_else x) f
  by_once false x f = absurd (cc)

  by_found : (o : Option Declaration) → declared table code ≡ o → and_so (sound_if o) (λ d. when (are_named_once d.specs) d) ≡ Ok d →
      declared table code ≡ Some d
  by_found None is f = absurd (cc)
  by_found (Some x) is f = is ∙ ap (λ (y : Declaration). Some y) (by_once (are_named_once x.specs) x f)

-- No bad high address: its form can be changed, and it has no ranges beside it.
fine_specs : (d : Declaration) (r : Bool) (specs : List Spec) →
    list_any (λ s. s.name == DW_AT_high_pc && (not (is_high_form s.form) || has_spec DW_AT_ranges d || r)) specs ≡ false →
    list_any (λ s. s.name == DW_AT_high_pc && not (is_high_form s.form)) specs ≡ false
fine_specs d r [] e = refl
fine_specs d r (s ∷ specs) e =
    let p = or_parts (s.name == DW_AT_high_pc && (not (is_high_form s.form) || has_spec DW_AT_ranges d || r))
    (list_any (λ s. s.name == DW_AT_high_pc && (not (is_high_form s.form) || has_spec DW_AT_ranges d || r)) specs) e in
    false_or (s.name == DW_AT_high_pc && not (is_high_form s.form))
    (list_any (λ s. s.name == DW_AT_high_pc && not (is_high_form s.form)) specs)
    (less (s.name == DW_AT_high_pc) (not (is_high_form s.form)) (has_spec DW_AT_ranges d) p.0) (fine_specs d r specs p.1) where
      false_or : (a b : Bool) → a ≡ false → b ≡ false → (a || b) ≡ false
      false_or true b e f = absurd (cc)
      false_or false b e f = f

      less : (a b c : Bool) → (a && (b || c || r)) ≡ false → (a && b) ≡ false
      less false b c f = refl
      less true true c f = absurd (cc)
      less true false c f = refl

pub fine_high : (d : Declaration) → has_bad_high d ≡ false → list_any (λ s. s.name == DW_AT_high_pc && not (is_high_form s.form)) d.specs
    ≡ false
fine_high d e = fine_specs d (not (list_any is_low d.specs)) d.specs e

apart_specs : (d : Declaration) (r : Bool) (specs : List Spec) →
    list_any (λ s. s.name == DW_AT_high_pc && (not (is_high_form s.form) || has_spec DW_AT_ranges d || r)) specs ≡ false →
    list_any (λ s. s.name == 18) specs ≡ true → has_spec DW_AT_ranges d ≡ false
apart_specs d r [] e f = absurd (cc)
apart_specs d r (s ∷ specs) e f =
    let p = or_parts (s.name == DW_AT_high_pc && (not (is_high_form s.form) || has_spec DW_AT_ranges d || r))
    (list_any (λ s. s.name == DW_AT_high_pc && (not (is_high_form s.form) || has_spec DW_AT_ranges d || r)) specs) e in
    by_name (s.name == 18) (not (is_high_form s.form)) (has_spec DW_AT_ranges d) p.0 f (apart_specs d r specs p.1) where
      by_name : (a b c : Bool) → (a && (b || c || r)) ≡ false → (a || list_any (λ s. s.name == 18) specs) ≡ true →
          (list_any (λ s. s.name == 18) specs ≡ true → c ≡ false) → c ≡ false
      by_name false b c e f ih = ih f
      by_name true true c e f ih = absurd (cc)
      by_name true false true e f ih = absurd (cc)
      by_name true false false e f ih = refl

pub apart_high : (d : Declaration) → has_bad_high d ≡ false → has_spec 18 d ≡ true → has_spec 85 d ≡ false
apart_high d e f = apart_specs d (not (list_any is_low d.specs)) d.specs e f

-- Entries

module _ (m : Moves) (small : AreSmall m) (own : Declaration → Bool) (first : Entry → Bool) (u : UnitBounds)
    (none : list_any has_bad_high u.table.list ≡ false) where
  can_change : (e : Entry) → IsReadEntry u e → CanChange m own first e
  can_change e r =
      let fine : has_bad_high e.declaration ≡ false = not_any has_bad_high (λ d. d.code == r.code) u.table.list e.declaration none
      (declared_is u.table r.code e.declaration r.declared) in
      can_change_attrs m small (own e.declaration) (first e) e u.end e.declaration.place e.declaration.specs e.attrs r.left r.rest
      (fine_high e.declaration fine) r.attrs

  pub can_change_all : (es : List Entry) → AreReadEntries u es → CanAll m own first es
  can_change_all [] r = tt
  can_change_all (e ∷ es) r = (can_change e r.0, can_change_all es r.1)
