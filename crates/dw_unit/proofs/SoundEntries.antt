-- Facts on the entries of sound sections: no attribute is named twice, and a high address has a low one beside it, and no ranges.
use Rattle.std.proofs.Common.{◌≡◌, ◌≢◌, ◌∙◌, ◌++◌, ⊎_elim, ℕ, List, [], ◌∷◌, Bool, true, false, not, Option, Some, None, Ok, Err, Result}
use Rattle.std.proofs.Common.{refl, ap, sym, subst, arith, length}
use Rattle.std.specs.Prelude.{⊤, ◌==◌, ◌&&◌, ◌||◌, if◌then◌else◌, is_some, option_and_then, Contains}
use Rattle.std.specs.List.{find, list_any, list_all, AllZip}
use Rattle.std.proofs.lemmas.Bool.{eq-eqb, eqb-true, ne_eqb, or_parts, or_right, and_parts}
use Rattle.std.proofs.lemmas.Bool.Decides.{nat_tests}
use Rattle.rb_bytes.proofs.Members.{Contains-nil, Contains-cons_cases, Contains-there}
use Rattle.rb_bytes.specs.FirstFault.{IsFree}
use Rattle.table_core.specs.AttributeForms.{is_form, is_address_index}
use Rattle.table_core.specs.DebugUnits.{Walked, walked}
use Rattle.table_core.proofs.Numbers.{same_value}
use Rattle.dw_unit.specs.declared.declaration.Spec.{Spec}
use Rattle.dw_unit.specs.declared.entry.Attr.{Attr}
use Rattle.dw_unit.specs.declared.trouble.Trouble.{Trouble}
use Rattle.dw_unit.specs.declared.trouble.Trouble.TheVariants.{NoForm}
use Rattle.table_core.specs.ReadSteps.{and_so}
use Rattle.dw_unit.specs.Trouble.{Read, when, sound_if}
use Rattle.dw_unit.specs.Declarations.{Declaration, table_at, is_named, has_spec, has_bad_high, is_low, is_high_form}
use Rattle.dw_unit.specs.CompUnits.{Entry, Unit, UnitBounds, Sections, attr, attr_at, attrs_at, form_within, address_of, address_at, low_pc}
use Rattle.dw_unit.specs.CompUnits.{may_repeat, are_named_once, end_of, units}
use Rattle.dw_unit.specs.Faults.{HasDwarfFault, unit_fault_places, is_sound_attr, is_sound_unit, declarations_of}
use Rattle.dw_unit.specs.Walking.{unit_bounds}
use Rattle.dw_unit.proofs.AttrFronts.{IsAttr, attr_front}
use Rattle.dw_unit.proofs.Changeable.{not_any, declared_is, apart_high}
use Rattle.dw_unit.proofs.NewSections.{declarations_are, no_bad_high, sound_units}
use Rattle.dw_unit.proofs.NoFaults.{NoneOf, none_of}
use Rattle.dw_unit.proofs.ReadEntries.{IsReadEntry, AreReadEntries, read_entries}
use Rattle.dw_unit.proofs.Readers.{after_attr, attrs_of_attr}
use Rattle.dw_unit.proofs.UnitsRead.{IsRead, IsGoodUnit, unit_read}

pub record IsSoundEntry (addr : List ℕ) (u : Unit) (e : Entry) : Type 0 where
  pub sole : (a : Attr) → Contains e.attrs a → may_repeat a.name ≡ false → attr a.name e ≡ Some a
  pub ranges : (h : Attr) → attr 0x12 e ≡ Some h → attr 0x55 e ≡ None
  pub low : (h : Attr) → attr 0x12 e ≡ Some h → is_some (low_pc addr u e) ≡ true
  pub sound : list_all (is_sound_attr addr u) e.attrs ≡ true

abbrev pub AreSoundEntries : List ℕ → Unit → List Entry → Type 0
AreSoundEntries addr u [] = ⊤
AreSoundEntries addr u (e ∷ es) = IsSoundEntry addr u e × AreSoundEntries addr u es

abbrev pub AreSoundUnits : List ℕ → List Unit → Type 0
AreSoundUnits addr [] = ⊤
AreSoundUnits addr (u ∷ us) = AreSoundEntries addr u u.entries × AreSoundUnits addr us

-- Attributes have the names of their declaration, and its forms, DW_FORM_indirect excepted.

record IsOf (s : Spec) (a : Attr) : Type 0 where
  pub name : a.name ≡ s.name
  pub form : (s.form == 22) ≡ false → a.form ≡ s.form

abbrev AreOf : List Spec → List Attr → Type 0
AreOf [] [] = ⊤
AreOf [] (a ∷ attrs) = ⊥
AreOf (s ∷ specs) [] = ⊥
AreOf (s ∷ specs) (a ∷ attrs) = IsOf s a × AreOf specs attrs

plain_form : (b : Bool) (d form x : ℕ) (left more : List ℕ) →
    ◌≡◌ {A = Read ℕ} (if b then Ok (form, left) else Err (NoForm d)) (Ok (x, more)) → x ≡ form
plain_form true d form x left more e = sym (same_value _ _ _ _ e)
plain_form false d form x left more e = absurd (cc)

module _ (end d : ℕ) where
  one_of : (s : Spec) (a : Attr) (left rest : List ℕ) → IsAttr end s a left rest → IsOf s a
  one_of s a left rest i = record {
    name = i.name;
    form = λ direct. plain_form (is_form s.form) d s.form a.form (i.lead ++ (i.body ++ rest)) (i.body ++ rest)
        (sym (ap (λ (b : Bool). if b then form_within (length (i.lead ++ (i.body ++ rest))) d (i.lead ++ (i.body ++ rest))
        else (if is_form s.form then Ok (s.form, i.lead ++ (i.body ++ rest)) else Err (NoForm d))) direct)
        ∙ i.form d (i.body ++ rest) refl);
  }

  by_rest : (s : Spec) (specs : List Spec) (attrs : List Attr) (a : Attr) (left l1 rest : List ℕ) (found : Read (List Attr)) →
      attr_at end d s left ≡ Ok (a, l1) → attrs_at end d specs l1 ≡ found → after_attr a found ≡ Ok (attrs, rest) →
      ((got : List Attr) (r : List ℕ) → attrs_at end d specs l1 ≡ Ok (got, r) → AreOf specs got) → AreOf (s ∷ specs) attrs
  by_rest s specs attrs a left l1 rest (Err t) read is f ih = absurd (cc)
  by_rest s specs attrs a left l1 rest (Ok got) read is f ih =
      subst (λ (l : List Attr). AreOf (s ∷ specs) l) (same_value _ _ _ _ f)
      (one_of s a left l1 (attr_front end d s a left l1 read), ih got.0 got.1 is)

  by_first : (s : Spec) (specs : List Spec) (attrs : List Attr) (left rest : List ℕ) (found : Read Attr) →
      attr_at end d s left ≡ found → attrs_of_attr end d specs found ≡ Ok (attrs, rest) →
      ((l1 : List ℕ) (got : List Attr) (r : List ℕ) → attrs_at end d specs l1 ≡ Ok (got, r) → AreOf specs got) → AreOf (s ∷ specs) attrs
  by_first s specs attrs left rest (Err t) is f ih = absurd (cc)
  by_first s specs attrs left rest (Ok got) is f ih =
      by_rest s specs attrs got.0 left got.1 rest (attrs_at end d specs got.1) is refl f (ih got.1)

  attrs_of : (specs : List Spec) (attrs : List Attr) (left rest : List ℕ) → attrs_at end d specs left ≡ Ok (attrs, rest) →
      AreOf specs attrs
  attrs_of [] attrs left rest f = subst (λ (l : List Attr). AreOf [] l) (same_value _ _ _ _ f) tt
  attrs_of (s ∷ specs) attrs left rest f = by_first s specs attrs left rest (attr_at end d s left) refl f
      (λ l1 got r g. attrs_of specs got l1 r g)

-- Names

abbrev called : ℕ → Attr → Bool
called k a = a.name == k

has_named : (specs : List Spec) (attrs : List Attr) (a : Attr) → AreOf specs attrs → Contains attrs a →
    list_any (is_named a.name) specs ≡ true
has_named [] [] a of c = absurd (Contains-nil a c)
has_named [] (b ∷ attrs) a of c = absurd of
has_named (s ∷ specs) [] a of c = absurd of
has_named (s ∷ specs) (b ∷ attrs) a of c = ⊎_elim
    (λ (e : b ≡ a). ap (λ (x : Bool). x || list_any (is_named a.name) specs)
    (eq-eqb s.name a.name (sym of.0.name ∙ ap (λ (x : Attr). x.name) e)))
    (λ (there : Contains attrs a). or_right (s.name == a.name) (list_any (is_named a.name) specs) (has_named specs attrs a of.1 there))
    (Contains-cons_cases b attrs a c)

found_named : (specs : List Spec) (attrs : List Attr) (k : ℕ) (h : Attr) → AreOf specs attrs → find (called k) attrs ≡ Some h →
    list_any (is_named k) specs ≡ true
found_named [] [] k h of e = absurd (cc)
found_named [] (b ∷ attrs) k h of e = absurd of
found_named (s ∷ specs) [] k h of e = absurd of
found_named (s ∷ specs) (b ∷ attrs) k h of e = step (b.name == k) refl e (found_named specs attrs k h of.1)
  where
    step : (x : Bool) → (b.name == k) ≡ x → (if x then Some b else find (called k) attrs) ≡ Some h →
        (find (called k) attrs ≡ Some h → list_any (is_named k) specs ≡ true) →
        ((s.name == k) || list_any (is_named k) specs) ≡ true
    step true is f ih = ap (λ (x : Bool). x || list_any (is_named k) specs) (ap (λ (n : ℕ). n == k) (sym of.0.name) ∙ is)
    step false is f ih = or_right (s.name == k) (list_any (is_named k) specs) (ih f)

none_named : (specs : List Spec) (attrs : List Attr) (k : ℕ) → AreOf specs attrs → list_any (is_named k) specs ≡ false →
    find (called k) attrs ≡ None
none_named specs attrs k of e = step (find (called k) attrs) refl
  where
    step : (o : Option Attr) → find (called k) attrs ≡ o → o ≡ None
    step None f = refl
    step (Some h) f = let g : true ≡ false = sym (found_named specs attrs k h of f) ∙ e in absurd (cc)

sole_of : (specs : List Spec) (attrs : List Attr) (a : Attr) → AreOf specs attrs → are_named_once specs ≡ true → Contains attrs a →
    may_repeat a.name ≡ false →
    find (called a.name) attrs ≡ Some a
sole_of [] [] a of once c r = absurd (Contains-nil a c)
sole_of [] (b ∷ attrs) a of once c r = absurd of
sole_of (s ∷ specs) [] a of once c r = absurd of
sole_of (s ∷ specs) (b ∷ attrs) a of once c r = ⊎_elim
    (λ (e : b ≡ a). ap (λ (x : Bool). if x then Some b else find (called a.name) attrs)
    (eq-eqb b.name a.name (ap (λ (x : Attr). x.name) e))
    ∙ ap (λ (x : Attr). Some x) e)
    (λ (there : Contains attrs a).
    ap (λ (x : Bool). if x then Some b else find (called a.name) attrs) (ne_eqb b.name a.name (other there))
    ∙ sole_of specs attrs a of.1 p.1 there r)
    (Contains-cons_cases b attrs a c)
  where
    p : ((may_repeat s.name || not (list_any (is_named s.name) specs)) ≡ true) × (are_named_once specs ≡ true)
    p = and_parts (may_repeat s.name || not (list_any (is_named s.name) specs)) (are_named_once specs) once

    clash : (x y : Bool) → (x || not y) ≡ true → x ≡ false → y ≡ true → ⊥
    clash true y e f g = absurd (cc)
    clash false true e f g = absurd (cc)
    clash false false e f g = absurd (cc)

    other : Contains attrs a → b.name ≢ a.name
    other there e =
        let same : a.name ≡ s.name = sym e ∙ of.0.name in
        clash (may_repeat s.name) (list_any (is_named s.name) specs) p.0 (ap may_repeat (sym same) ∙ r)
        (subst (λ (k : ℕ). list_any (is_named k) specs ≡ true) same (has_named specs attrs a of.1 there))

-- Low addresses

low_beside : (d : Declaration) (x : Bool) (specs : List Spec) →
    list_any (λ s. s.name == 18 && (not (is_high_form s.form) || has_spec 85 d || not x)) specs ≡ false →
    list_any (is_named 18) specs ≡ true → x ≡ true
low_beside d x [] e f = absurd (cc)
low_beside d x (s ∷ specs) e f =
    let p = or_parts (s.name == 18 && (not (is_high_form s.form) || has_spec 85 d || not x))
    (list_any (λ s. s.name == 18 && (not (is_high_form s.form) || has_spec 85 d || not x)) specs) e in
    by_name (s.name == 18) (not (is_high_form s.form)) (has_spec 85 d) x p.0 f (low_beside d x specs p.1)
  where
    by_name : (a b c x : Bool) → (a && (b || c || not x)) ≡ false → (a || list_any (is_named 18) specs) ≡ true →
        (list_any (is_named 18) specs ≡ true → x ≡ true) → x ≡ true
    by_name a b c true e f ih = refl
    by_name false b c false e f ih = ih f
    by_name true true c false e f ih = absurd (cc)
    by_name true false true false e f ih = absurd (cc)
    by_name true false false false e f ih = absurd (cc)

record IsLowAttr (attrs : List Attr) : Type 0 where
  pub a : Attr
  pub there : Contains attrs a
  pub name : a.name ≡ 17
  pub form : ((a.form == 1) || is_address_index a.form) ≡ true

direct : (form : ℕ) → ((form == 1) || is_address_index form) ≡ true → (form == 22) ≡ false
direct form e = grind (arith, nat_tests)

low_there : (specs : List Spec) (attrs : List Attr) → AreOf specs attrs → list_any is_low specs ≡ true → IsLowAttr attrs
low_there [] attrs of e = absurd (cc)
low_there (s ∷ specs) [] of e = absurd of
low_there (s ∷ specs) (a ∷ attrs) of e = step (is_low s) refl e (low_there specs attrs of.1)
  where
    step : (b : Bool) → is_low s ≡ b → (b || list_any is_low specs) ≡ true → (list_any is_low specs ≡ true → IsLowAttr attrs) →
        IsLowAttr (a ∷ attrs)
    step true is f ih =
        let p = and_parts (s.name == 17) ((s.form == 1) || is_address_index s.form) is in
        let same : s.form ≡ a.form = sym (of.0.form (direct s.form p.1)) in
        record {
          a = a;
          there = (0, omega arith, refl);
          name = of.0.name ∙ eqb-true s.name 17 p.0;
          form = subst (λ (n : ℕ). ((n == 1) || is_address_index n) ≡ true) same p.1;
        }
    step false is f ih =
        let more = ih f in
        record { a = more.a; there = Contains-there a attrs more.a more.there; name = more.name; form = more.form }

-- All attributes pass a test, so each one does.
all_there : (test : Attr → Bool) (attrs : List Attr) (a : Attr) → list_all test attrs ≡ true → Contains attrs a → test a ≡ true
all_there test [] a e c = absurd (Contains-nil a c)
all_there test (b ∷ attrs) a e c =
    let p = and_parts (test b) (list_all test attrs) e in
    ⊎_elim (λ (same : b ≡ a). subst (λ (x : Attr). test x ≡ true) same p.0)
    (λ (there : Contains attrs a). all_there test attrs a p.1 there)
    (Contains-cons_cases b attrs a c)

-- The second of the tests of a sound attribute.
index_sound : (a b c d e f g h : Bool) → (a && (not b || c) && d && e && f && g && h) ≡ true → b ≡ true → c ≡ true
index_sound true true true d e f g h is at = refl
index_sound true true false d e f g h is at = absurd (cc)
index_sound true false c d e f g h is at = absurd (cc)
index_sound false b c d e f g h is at = absurd (cc)

address_there : (addr : List ℕ) (u : Unit) (a : Attr) (b c : Bool) → (a.form == 1) ≡ b → is_address_index a.form ≡ c → (b || c) ≡ true →
    is_sound_attr addr u a ≡ true →
    is_some (address_of addr u a) ≡ true
address_there addr u a true c is index e sound =
    ap (λ (b : Bool). is_some (if b then Some a.value else (if is_address_index a.form then address_at addr u a.value else None))) is
address_there addr u a false c is index e sound = index_sound _ (is_address_index a.form) (is_some (address_of addr u a)) _ _ _ _ _ sound
    (index ∙ e)

-- Entries

module _ (addr : List ℕ) (u : Unit) (bounds : UnitBounds) (none : list_any has_bad_high bounds.table.list ≡ false) where
  sound_entry : (e : Entry) → IsReadEntry bounds e → list_all (is_sound_attr addr u) e.attrs ≡ true → IsSoundEntry addr u e
  sound_entry e r sound = record { sole = sole; ranges = ranges; low = low; sound = sound }
    where
      fine : has_bad_high e.declaration ≡ false
      fine = not_any has_bad_high (λ d. d.code == r.code) bounds.table.list e.declaration none
          (declared_is bounds.table r.code e.declaration r.declared)

      of : AreOf e.declaration.specs e.attrs
      of = attrs_of bounds.end e.declaration.place e.declaration.specs e.attrs r.left r.rest r.attrs

      and_when : Option Declaration → Result Declaration Trouble
      and_when o = and_so (sound_if o) (λ d. when (are_named_once d.specs) d)

      once_by : (b : Bool) → when b e.declaration ≡ Ok e.declaration → b ≡ true
      once_by true f = refl
      once_by false f = absurd (cc)

      once : are_named_once e.declaration.specs ≡ true
      once = once_by (are_named_once e.declaration.specs)
          (sym (ap and_when (declared_is bounds.table r.code e.declaration r.declared)) ∙ r.declared)

      sole : (a : Attr) → Contains e.attrs a → may_repeat a.name ≡ false → attr a.name e ≡ Some a
      sole a c m = sole_of e.declaration.specs e.attrs a of once c m

      ranges : (h : Attr) → attr 0x12 e ≡ Some h → attr 0x55 e ≡ None
      ranges h is = none_named e.declaration.specs e.attrs 85 of
          (apart_high e.declaration fine (found_named e.declaration.specs e.attrs 18 h of is))

      low : (h : Attr) → attr 0x12 e ≡ Some h → is_some (low_pc addr u e) ≡ true
      low h is =
          let beside : list_any is_low e.declaration.specs ≡ true =
          low_beside e.declaration (list_any is_low e.declaration.specs) e.declaration.specs fine
          (found_named e.declaration.specs e.attrs 18 h of is) in
          let l = low_there e.declaration.specs e.attrs of beside in
          let there : attr 17 e ≡ Some l.a = subst (λ (k : ℕ). attr k e ≡ Some l.a) l.name (sole l.a l.there (ap may_repeat l.name)) in
          ap (λ (o : Option Attr). is_some (option_and_then (address_of addr u) o)) there
          ∙ address_there addr u l.a (l.a.form == 1) (is_address_index l.a.form) refl refl l.form
          (all_there (is_sound_attr addr u) e.attrs l.a sound l.there)

  sound_entries : (es : List Entry) → AreReadEntries bounds es →
      list_all (λ (e : Entry). list_all (is_sound_attr addr u) e.attrs) es ≡ true → AreSoundEntries addr u es
  sound_entries [] r e = tt
  sound_entries (x ∷ es) r e =
      let p = and_parts (list_all (is_sound_attr addr u) x.attrs)
      (list_all (λ (e : Entry). list_all (is_sound_attr addr u) e.attrs) es) e in
      (sound_entry x r.0 p.0, sound_entries es r.1 p.1)

by_units : (s : Sections) (ws : List Walked) (us : List Unit) → AllZip (IsGoodUnit s.abbrevs (is_sound_unit s.addr)) ws us →
    NoneOf has_bad_high (declarations_of s.abbrevs) ws → AreSoundUnits s.addr us
by_units s [] [] z n = tt
by_units s [] (u ∷ us) z n = absurd z
by_units s (w ∷ ws) [] z n = absurd z
by_units s (w ∷ ws) (u ∷ us) z n =
    let r : IsRead s.abbrevs w u = unit_read s.abbrevs w u z.0.0 in
    let bounds = unit_bounds w.place (end_of w) (table_at s.abbrevs u.abbrev_offset) in (
      sound_entries s.addr u bounds (subst (λ (ds : List Declaration). list_any has_bad_high ds ≡ false)
          (declarations_are s.abbrevs w u r) n.0) u.entries
          (read_entries bounds (length r.left) 0 r.left u.entries r.entries) z.0.1,
      by_units s ws us z.1 n.1,
    )

-- The units of sections without a fault.
pub all_sound : (s : Sections) → IsFree (HasDwarfFault (unit_fault_places s)) → AreSoundUnits s.addr (units s)
all_sound s free =
    by_units s (walked 5 s.info) (units s) (sound_units s free)
    (none_of has_bad_high (declarations_of s.abbrevs) (walked 5 s.info) (no_bad_high s free))
