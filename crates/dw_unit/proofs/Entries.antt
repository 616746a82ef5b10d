-- Entries one at a time.
use Rattle.std.proofs.Common.{◌≡◌, ◌≢◌, ◌<◌, ◌≤◌, ◌-◌, ℕ, zero, suc, List, [], ◌∷◌, Bool, true, false, Ok, Err, Result, refl, ap, ◌∙◌}
use Rattle.std.proofs.Common.{arith, length}
use Rattle.std.specs.Prelude.{◌==◌, if◌then◌else◌}
use Rattle.std.proofs.lemmas.Bool.Decides.{nat_tests}
use Rattle.rb_bytes.specs.declared.gap.Gap.{Gap}
use Rattle.rb_bytes.specs.Readers.{and_then}
use Rattle.rb_bytes.specs.Leb.{uleb_at}
use Rattle.table_core.specs.ReadSteps.{and_so, with_head}
use Rattle.table_core.proofs.Numbers.{same_left}
use Rattle.dw_unit.specs.declared.trouble.Trouble.{Trouble}
use Rattle.dw_unit.specs.declared.declaration.Spec.{Spec}
use Rattle.dw_unit.specs.declared.entry.Attr.{Attr}
use Rattle.dw_unit.specs.Trouble.{Read, whole}
use Rattle.dw_unit.specs.Declarations.{Declaration}
use Rattle.dw_unit.specs.CompUnits.{Entry, UnitBounds, attr_at, attrs_at, entry_behind, entries_within, declaration_of, depth_behind}
use Rattle.dw_unit.specs.Walking.{entries_at, walked_entry}
use Rattle.dw_unit.proofs.Forms.{uleb_forward}
use Rattle.dw_unit.specs.declared.trouble.Stop.{Stop}
use Rattle.dw_unit.specs.declared.trouble.Stop.TheVariants as stop
use Rattle.dw_unit.specs.Stops.{TroubleHas}
use Rattle.dw_unit.proofs.Readers.{attr_less, after_attr, attrs_of_attr}

-- Reading attributes goes forward.

attrs_less_by : (end d : ℕ) (specs : List Spec) (l1 l2 : List ℕ) (attrs : List Attr) (a : Attr) (found : Read (List Attr)) →
    attrs_at end d specs l1 ≡ found → after_attr a found ≡ Ok (attrs, l2) →
    ((got : List Attr) (l : List ℕ) → attrs_at end d specs l1 ≡ Ok (got, l) → length l ≤ length l1) → length l2 ≤ length l1
attrs_less_by end d specs l1 l2 attrs a (Err t) is e ih = absurd (cc)
attrs_less_by end d specs l1 l2 attrs a (Ok got) is e ih =
    let same : length got.1 ≡ length l2 = ap length (same_left _ _ _ _ e) in
    let less : length got.1 ≤ length l1 = ih got.0 got.1 is in
    omega arith

attrs_less_from : (end d : ℕ) (s : Spec) (specs : List Spec) (l1 l2 : List ℕ) (attrs : List Attr) (found : Read Attr) →
    attr_at end d s l1 ≡ found →
    attrs_of_attr end d specs found ≡ Ok (attrs, l2) →
    ((l : List ℕ) (got : List Attr) (m : List ℕ) → attrs_at end d specs l ≡ Ok (got, m) → length m ≤ length l) → length l2 ≤ length l1
attrs_less_from end d s specs l1 l2 attrs (Err t) is e ih = absurd (cc)
attrs_less_from end d s specs l1 l2 attrs (Ok read) is e ih =
    let first : length read.1 ≤ length l1 = attr_less end d s l1 read.1 read.0 is in
    let behind : length l2 ≤ length read.1 = attrs_less_by end d specs read.1 l2 attrs read.0 (attrs_at end d specs read.1) refl e
    (ih read.1) in
    omega arith

pub attrs_less : (end d : ℕ) (specs : List Spec) (l1 l2 : List ℕ) (attrs : List Attr) → attrs_at end d specs l1 ≡ Ok (attrs, l2) →
    length l2 ≤ length l1
attrs_less end d [] l1 l2 attrs e = let same : length l1 ≡ length l2 = ap length (same_left _ _ _ _ e) in omega arith
attrs_less end d (s ∷ specs) l1 l2 attrs e =
    attrs_less_from end d s specs l1 l2 attrs (attr_at end d s l1) refl e (λ l got m. attrs_less end d specs l m got)

-- Any limit that is at least the number of bytes left gives the same result.

abbrev pub More : Type 0
More = ℕ → List ℕ → Result (List Entry) Trouble

abbrev pub behind_attrs : UnitBounds → More → ℕ → ℕ → Declaration → Read (List Attr) → Result (List Entry) Trouble
behind_attrs u more place depth d r = and_then r (λ attrs rest. with_head (walked_entry u place depth d attrs)
    (more (depth_behind depth d) rest))

abbrev pub behind_declaration : UnitBounds → More → ℕ → ℕ → List ℕ → Result Declaration Trouble → Result (List Entry) Trouble
behind_declaration u more place depth left r = and_so r (λ d. behind_attrs u more place depth d (attrs_at u.end d.place d.specs left))

abbrev pub behind_code : UnitBounds → More → ℕ → ℕ → Read ℕ → Result (List Entry) Trouble
behind_code u more place depth r = and_then r (entry_behind u more place depth)

module _ (u : UnitBounds) (more most : More) (place depth : ℕ) where
  same_attrs : (d : Declaration) (left : List ℕ) (found : Read (List Attr)) → attrs_at u.end d.place d.specs left ≡ found →
      ((depth : ℕ) (rest : List ℕ) → length rest ≤ length left → more depth rest ≡ most depth rest) →
      behind_attrs u more place depth d found ≡ behind_attrs u most place depth d found
  same_attrs d left (Err t) is same = refl
  same_attrs d left (Ok read) is same = ap (with_head (walked_entry u place depth d read.0))
      (same (depth_behind depth d) read.1 (attrs_less u.end d.place d.specs left read.1 read.0 is))

  same_declaration : (left : List ℕ) (found : Result Declaration Trouble) →
      ((depth : ℕ) (rest : List ℕ) → length rest ≤ length left → more depth rest ≡ most depth rest) →
      behind_declaration u more place depth left found ≡ behind_declaration u most place depth left found
  same_declaration left (Err t) same = refl
  same_declaration left (Ok d) same = same_attrs d left (attrs_at u.end d.place d.specs left) refl same

  same_entry : (b : Bool) (code : ℕ) (left : List ℕ) → ((depth : ℕ) (rest : List ℕ) → length rest ≤ length left →
      more depth rest ≡ most depth rest) →
      ◌≡◌ {A = Result (List Entry) Trouble} (if b then more (depth - 1) left else behind_declaration u more place depth left
      (declaration_of u.table code))
      (if b then most (depth - 1) left else behind_declaration u most place depth left (declaration_of u.table code))
  same_entry true code left same = same (depth - 1) left (omega arith)
  same_entry false code left same = same_declaration left (declaration_of u.table code) same

  same_code : (left : List ℕ) (found : Result (ℕ × List ℕ) Gap) → uleb_at left ≡ found →
      ((depth : ℕ) (rest : List ℕ) → length rest < length left → more depth rest ≡ most depth rest) →
      behind_code u more place depth (whole found) ≡ behind_code u most place depth (whole found)
  same_code left (Err gap) is same = refl
  same_code left (Ok read) is same =
      let less : length read.1 < length left = uleb_forward left read.1 read.0 is in
      same_entry (read.0 == 0) read.0 read.1 (λ depth rest h. same depth rest (omega arith))

pub entries_enough : (u : UnitBounds) (n m depth : ℕ) (left : List ℕ) → length left ≤ n → length left ≤ m →
    entries_within u n depth left ≡ entries_within u m depth left
unfolding entries_within
entries_enough u zero zero depth left h k = refl
entries_enough u zero (suc m) depth [] h k = refl
entries_enough u zero (suc m) depth (b ∷ left) h k = absurd (omega arith)
entries_enough u (suc n) zero depth [] h k = refl
entries_enough u (suc n) zero depth (b ∷ left) h k = absurd (omega arith)
entries_enough u (suc n) (suc m) depth [] h k = refl
entries_enough u (suc n) (suc m) depth (b ∷ left) h k =
    same_code u (entries_within u n) (entries_within u m) (u.end - length (b ∷ left)) depth (b ∷ left) (uleb_at (b ∷ left)) refl
    (λ depth rest s. entries_enough u n m depth rest (omega arith) (omega arith))

-- What the front decides.

pub entries_step : (u : UnitBounds) (depth : ℕ) (left : List ℕ) → 0 < length left →
    entries_at u depth left ≡ behind_code u (entries_at u) (u.end - length left) depth (whole (uleb_at left))
unfolding entries_within
entries_step u depth [] h = absurd (omega arith)
entries_step u depth (b ∷ left) h =
    same_code u (entries_within u (length left)) (entries_at u) (u.end - length (b ∷ left)) depth (b ∷ left) (uleb_at (b ∷ left)) refl
    (λ depth rest s. entries_enough u (length left) (length rest) depth rest (omega arith) (omega arith))

pub no_entries : (u : UnitBounds) (depth : ℕ) (left : List ℕ) → length left ≡ 0 → entries_at u depth left ≡ Ok []
unfolding entries_within
no_entries u depth [] h = refl
no_entries u depth (b ∷ left) h = absurd (omega arith)

pub bad_code : (u : UnitBounds) (depth : ℕ) (left : List ℕ) (t : Trouble) → 0 < length left → whole (uleb_at left) ≡ Err t →
    entries_at u depth left ≡ Err t
bad_code u depth left t h e = entries_step u depth left h ∙ ap (behind_code u (entries_at u) (u.end - length left) depth) e

pub end_code : (u : UnitBounds) (depth : ℕ) (left rest : List ℕ) → 0 < length left → whole (uleb_at left) ≡ Ok (0, rest) →
    entries_at u depth left ≡ entries_at u (depth - 1) rest
end_code u depth left rest h e = entries_step u depth left h ∙ ap (behind_code u (entries_at u) (u.end - length left) depth) e

pub code_step : (u : UnitBounds) (depth code : ℕ) (left rest : List ℕ) → 0 < length left → whole (uleb_at left) ≡ Ok (code, rest) →
    code ≢ 0 →
    entries_at u depth left ≡ behind_declaration u (entries_at u) (u.end - length left) depth rest (declaration_of u.table code)
code_step u depth code left rest h e f =
    let test : (code == 0) ≡ false = grind (arith, nat_tests) in
    entries_step u depth left h ∙ ap (behind_code u (entries_at u) (u.end - length left) depth) e
    ∙ ap (λ (b : Bool). if b then entries_at u (depth - 1) rest else behind_declaration u (entries_at u) (u.end - length left) depth rest
    (declaration_of u.table code)) test

pub bad_declaration : (u : UnitBounds) (depth code : ℕ) (left rest : List ℕ) (t : Trouble) → 0 < length left →
    whole (uleb_at left) ≡ Ok (code, rest) → code ≢ 0 →
    declaration_of u.table code ≡ Err t → entries_at u depth left ≡ Err t
bad_declaration u depth code left rest t h e f g =
    code_step u depth code left rest h e f ∙ ap (behind_declaration u (entries_at u) (u.end - length left) depth rest) g

pub bad_attrs : (u : UnitBounds) (depth code : ℕ) (left rest : List ℕ) (d : Declaration) (t : Trouble) → 0 < length left →
    whole (uleb_at left) ≡ Ok (code, rest) → code ≢ 0 →
    declaration_of u.table code ≡ Ok d → attrs_at u.end d.place d.specs rest ≡ Err t → entries_at u depth left ≡ Err t
bad_attrs u depth code left rest d t h e f g k =
    code_step u depth code left rest h e f ∙ ap (behind_declaration u (entries_at u) (u.end - length left) depth rest) g
    ∙ ap (behind_attrs u (entries_at u) (u.end - length left) depth d) k

pub one_entry : (u : UnitBounds) (depth code : ℕ) (left rest l2 : List ℕ) (d : Declaration) (attrs : List Attr) → 0 < length left →
    whole (uleb_at left) ≡ Ok (code, rest) → code ≢ 0 →
    declaration_of u.table code ≡ Ok d → attrs_at u.end d.place d.specs rest ≡ Ok (attrs, l2) →
    entries_at u depth left ≡ with_head (walked_entry u (u.end - length left) depth d attrs) (entries_at u (depth_behind depth d) l2)
one_entry u depth code left rest l2 d attrs h e f g k =
    code_step u depth code left rest h e f ∙ ap (behind_declaration u (entries_at u) (u.end - length left) depth rest) g
    ∙ ap (behind_attrs u (entries_at u) (u.end - length left) depth d) k

-- From the trouble of a part to that of the whole.
pub trouble_map : (s : Stop) (P Q : Trouble → Type 0) → ((t : Trouble) → P t → Q t) → TroubleHas s P → TroubleHas s Q
trouble_map stop.Memory P Q f p = tt
trouble_map (stop.Trouble t) P Q f p = f t p
