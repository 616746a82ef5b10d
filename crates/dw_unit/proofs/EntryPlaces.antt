-- Entries follow one another, over all units of a file.
use Rattle.std.proofs.Common.{◌≡◌, ◌<◌, ◌≤◌, ◌+◌, ◌-◌, ◌++◌, ◌∙◌, ℕ, zero, suc, List, [], ◌∷◌, Bool, true, false, Ok, Err, Result, refl, ap}
use Rattle.std.proofs.Common.{subst, arith, length, length-append, map}
use Rattle.std.specs.Prelude.{◌==◌, if◌then◌else◌, flat_map}
use Rattle.std.specs.List.{AllZip}
use Rattle.std.specs.Option.{option_map_or}
use Rattle.rb_bytes.specs.FirstFault.{IsFree}
use Rattle.rb_bytes.specs.declared.gap.Gap.{Gap}
use Rattle.rb_bytes.specs.Leb.{uleb_at}
use Rattle.table_core.specs.DebugUnits.{Walked, walked}
use Rattle.table_core.specs.ReadSteps.{with_head}
use Rattle.dw_unit.specs.declared.trouble.Trouble.{Trouble}
use Rattle.dw_unit.specs.declared.entry.Attr.{Attr}
use Rattle.dw_unit.specs.Trouble.{Read, whole}
use Rattle.dw_unit.specs.Declarations.{Declaration, table_at}
use Rattle.dw_unit.specs.CompUnits.{Entry, Unit, UnitBounds, Sections, attrs_at, entries_within, declaration_of, depth_behind, end_of}
use Rattle.dw_unit.specs.CompUnits.{entries, units}
use Rattle.dw_unit.specs.EntryChanges.{AreBehind}
use Rattle.dw_unit.specs.Faults.{HasDwarfFault, unit_fault_places, is_sound_unit}
use Rattle.dw_unit.specs.Walking.{unit_bounds, walked_entry}
use Rattle.dw_unit.proofs.Entries.{More, attrs_less, behind_attrs, behind_declaration, behind_code}
use Rattle.dw_unit.proofs.Forms.{uleb_forward}
use Rattle.dw_unit.proofs.Headers.{IsHeader, header_front}
use Rattle.answer_runs.proofs.Ascending.{Ascends}
use Rattle.dw_unit.proofs.NewSections.{sound_units, units_behind}
use Rattle.dw_unit.proofs.UnitsRead.{IsRead, IsGoodUnit, unit_read}

-- Offsets that ascend, between two bounds.
abbrev pub Rise : (from to : ℕ) → List Entry → Type 0
Rise from to [] = from ≤ to
Rise from to (e ∷ es) = (from ≤ e.place) × Rise (e.place + 1) to es

rise_less : (less from to : ℕ) (es : List Entry) → less ≤ from → Rise from to es → Rise less to es
rise_less less from to [] h r = omega arith
rise_less less from to (e ∷ es) h r = let g = r.0 in (omega arith, r.1)

rise_append : (a b c d : ℕ) (xs ys : List Entry) → b ≤ c → Rise a b xs → Rise c d ys → Rise a d (xs ++ ys)
rise_append a b c d [] ys h r s = rise_less a c d ys (omega arith) s
rise_append a b c d (x ∷ xs) ys h r s = (r.0, rise_append (x.place + 1) b c d xs ys h r.1 s)

rise_ascends : (from to : ℕ) (es : List Entry) → Rise from to es → Ascends from (map (λ (e : Entry). e.place) es)
rise_ascends from to [] r = tt
rise_ascends from to (e ∷ es) r = (r.0, rise_ascends (e.place + 1) to es r.1)

-- The entries of a unit

abbrev or_nil : Result (List Entry) Trouble → List Entry
or_nil (Ok es) = es
or_nil (Err t) = []

module _ (u : UnitBounds) (more : More) (size depth : ℕ) (inside : size ≤ u.end)
    (ih : (depth : ℕ) (rest : List ℕ) (es : List Entry) → length rest < size → more depth rest ≡ Ok es →
    Rise (u.end - length rest) u.end es) where
  abbrev here : ℕ
  here = u.end - size

  by_head : (d : Declaration) (attrs : List Attr) (rest : List ℕ) (found : Result (List Entry) Trouble) (es : List Entry) →
      length rest < size →
      ((got : List Entry) → found ≡ Ok got → Rise (u.end - length rest) u.end got) →
      with_head (walked_entry u here depth d attrs) found ≡ Ok es → Rise here u.end es
  by_head d attrs rest (Err t) es h f x = absurd (cc)
  by_head d attrs rest (Ok got) es h f x =
      subst (λ (l : List Entry). Rise here u.end l) (ap or_nil x)
      (omega arith, rise_less (here + 1) (u.end - length rest) u.end got (omega (arith, inside, h)) (f got refl))

  by_attrs : (d : Declaration) (left : List ℕ) (found : Read (List Attr)) (es : List Entry) → length left < size →
      attrs_at u.end d.place d.specs left ≡ found → behind_attrs u more here depth d found ≡ Ok es → Rise here u.end es
  by_attrs d left (Err t) es h is e = absurd (cc)
  by_attrs d left (Ok got) es h is e =
      let less : length got.1 ≤ length left = attrs_less u.end d.place d.specs left got.1 got.0 is in
      by_head d got.0 got.1 (more (depth_behind depth d) got.1) es (omega arith)
      (λ es2 f. ih (depth_behind depth d) got.1 es2 (omega arith) f) e

  by_declaration : (left : List ℕ) (found : Result Declaration Trouble) (es : List Entry) → length left < size →
      behind_declaration u more here depth left found ≡ Ok es → Rise here u.end es
  by_declaration left (Err t) es h e = absurd (cc)
  by_declaration left (Ok d) es h e = by_attrs d left (attrs_at u.end d.place d.specs left) es h refl e

  by_entry : (b : Bool) (code : ℕ) (left : List ℕ) (es : List Entry) → length left < size →
      ◌≡◌ {A = Result (List Entry) Trouble} (if b then more (depth - 1) left else behind_declaration u more here depth left
      (declaration_of u.table code)) (Ok es) →
      Rise here u.end es
  by_entry true code left es h e = rise_less here (u.end - length left) u.end es (omega (arith, inside, h)) (ih (depth - 1) left es h e)
  by_entry false code left es h e = by_declaration left (declaration_of u.table code) es h e

  by_code : (left : List ℕ) (found : Result (ℕ × List ℕ) Gap) (es : List Entry) → length left ≡ size → uleb_at left ≡ found →
      behind_code u more here depth (whole found) ≡ Ok es → Rise here u.end es
  by_code left (Err gap) es h is e = absurd (cc)
  by_code left (Ok read) es h is e =
      let less : length read.1 < length left = uleb_forward left read.1 read.0 is in
      by_entry (read.0 == 0) read.0 read.1 es (omega arith) e

entries_rise : (u : UnitBounds) (n depth : ℕ) (left : List ℕ) (es : List Entry) → length left ≤ u.end →
    entries_within u n depth left ≡ Ok es →
    Rise (u.end - length left) u.end es
unfolding entries_within
entries_rise u zero depth [] es h e = subst (λ (l : List Entry). Rise (u.end - 0) u.end l) (ap or_nil e) (omega arith)
entries_rise u zero depth (b ∷ left) es h e = absurd (cc)
entries_rise u (suc n) depth [] es h e = subst (λ (l : List Entry). Rise (u.end - 0) u.end l) (ap or_nil e) (omega arith)
entries_rise u (suc n) depth (b ∷ left) es h e =
    by_code u (entries_within u n) (length (b ∷ left)) depth h (λ depth rest es l f. entries_rise u n depth rest es
    (omega (arith, h, l)) f)
    (b ∷ left) (uleb_at (b ∷ left)) es refl refl e

pub unit_rises : (abbrevs : List ℕ) (w : Walked) (u : Unit) → IsRead abbrevs w u → Rise w.place (end_of w) u.entries
unit_rises abbrevs w u r =
    let i : IsHeader r.bytes r.left = header_front r.bytes r.left u.abbrev_offset r.header in
    let size : end_of w ≡ w.place + 4 + length r.bytes = ap (λ o. w.place + 4 + option_map_or length o 0) r.is in
    let a = ap length i.is ∙ length-append i.lead (i.old ++ (i.tail ++ r.left)) in
    let b = length-append i.old (i.tail ++ r.left) in
    let c = length-append i.tail r.left in
    rise_less w.place (end_of w - length r.left) (end_of w) u.entries (omega arith)
    (entries_rise (unit_bounds w.place (end_of w) (table_at abbrevs u.abbrev_offset)) (length r.left) 0 r.left u.entries
    (omega arith) r.entries)

-- All units

units_rise : (s : Sections) (from to : ℕ) (ws : List Walked) (us : List Unit) → AreBehind from to ws →
    AllZip (IsGoodUnit s.abbrevs (is_sound_unit s.addr)) ws us →
    Rise from to (flat_map (λ (u : Unit). u.entries) us)
units_rise s from to [] [] b z = b
units_rise s from to [] (u ∷ us) b z = absurd z
units_rise s from to (w ∷ ws) [] b z = absurd z
units_rise s from to (w ∷ ws) (u ∷ us) b z =
    rise_less from w.place to (u.entries ++ flat_map (λ (u : Unit). u.entries) us) b.0
    (rise_append w.place (end_of w) (end_of w) to u.entries (flat_map (λ (u : Unit). u.entries) us) (omega arith)
    (unit_rises s.abbrevs w u (unit_read s.abbrevs w u z.0.0)) (units_rise s (end_of w) to ws us b.2 z.1))

-- The offsets of the entries of sound sections ascend strictly.
pub places_ascend : (s : Sections) → IsFree (HasDwarfFault (unit_fault_places s)) → Ascends 0 (map (λ (e : Entry). e.place) (entries s))
places_ascend s free =
    rise_ascends 0 (length s.info) (entries s) (units_rise s 0 (length s.info) (walked 5 s.info) (units s) (units_behind s free)
    (sound_units s free))
