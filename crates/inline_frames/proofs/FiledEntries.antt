-- The unit of each entry is found by the offset of a unit that the entry has.
use Rattle.std.proofs.Common.{◌≡◌, ◌∙◌, ◌≤◌, ◌+◌, ◌-◌, ◌==◌, ℕ, zero, suc, Bool, true, false, List, [], ◌∷◌, Some, Ok, Err, Result, refl}
use Rattle.std.proofs.Common.{sym, ap, subst, arith, length}
use Rattle.std.specs.Prelude.{if◌then◌else◌}
use Rattle.std.specs.List.{AllZip, find}
use Rattle.std.proofs.lemmas.Bool.Decides.{nat_tests}
use Rattle.rb_bytes.specs.FirstFault.{IsFree}
use Rattle.rb_bytes.specs.Leb.{uleb_at}
use Rattle.rb_bytes.specs.Readers.{and_then}
use Rattle.rb_bytes.specs.declared.gap.Gap.{Gap}
use Rattle.table_core.specs.DebugUnits.{Walked, walked}
use Rattle.table_core.specs.ReadSteps.{and_so, with_head}
use Rattle.dw_unit.specs.declared.entry.Attr.{Attr}
use Rattle.dw_unit.specs.declared.trouble.Trouble.{Trouble}
use Rattle.dw_unit.specs.CompUnits.{Entry, Unit, UnitBounds, attrs_at, declaration_of, depth_behind, end_of, entries_within, entry_behind}
use Rattle.dw_unit.specs.CompUnits.{units}
use Rattle.dw_unit.specs.Declarations.{Declaration}
use Rattle.dw_unit.specs.EntryChanges.{AreBehind}
use Rattle.dw_unit.specs.Faults.{HasDwarfFault, is_sound_unit, unit_fault_places}
use Rattle.dw_unit.specs.Trouble.{Read, whole}
use Rattle.dw_unit.proofs.NewSections.{sound_units, units_behind}
use Rattle.dw_unit.proofs.UnitsRead.{IsGoodUnit, unit_read}
use Rattle.inline_frames.specs.Names.{NameSections, unit_of_entry}
use Rattle.inline_frames.proofs.Pairs.{AllOf, map_all}

-- Entries have the offset of the unit that they are read in.

abbrev Entries : Type 0
Entries = Result (List Entry) Trouble

module _ (u : UnitBounds) (more : ℕ → List ℕ → Entries)
    (ih : (depth : ℕ) (rest : List ℕ) (es : List Entry) → more depth rest ≡ Ok es → AllOf (λ (e : Entry). e.unit ≡ u.place) es) where
  abbrev Filed : List Entry → Type 0
  Filed es = AllOf (λ (e : Entry). e.unit ≡ u.place) es

  by_head : (place depth : ℕ) (d : Declaration) (attrs : List Attr) (r : Entries) (es : List Entry) →
      ((got : List Entry) → r ≡ Ok got → Filed got) →
      with_head (record { place = place; unit = u.place; depth = depth; declaration = d; attrs = attrs }) r ≡ Ok es → Filed es
  by_head place depth d attrs (Err t) es h e = absurd (cc)
  by_head place depth d attrs (Ok got) es h e =
      let same : record { place = place; unit = u.place; depth = depth; declaration = d; attrs = attrs } ∷ got ≡ es = cc in
      subst Filed same (refl, h got refl)

  by_attrs : (place depth : ℕ) (d : Declaration) (r : Read (List Attr)) (es : List Entry) →
      and_then r (λ attrs rest. with_head (record { place = place; unit = u.place; depth = depth; declaration = d; attrs = attrs })
      (more (depth_behind depth d) rest)) ≡ Ok es → Filed es
  by_attrs place depth d (Err t) es e = absurd (cc)
  by_attrs place depth d (Ok read) es e =
      by_head place depth d read.0 (more (depth_behind depth d) read.1) es (λ got f. ih (depth_behind depth d) read.1 got f) e

  by_declaration : (place depth : ℕ) (left : List ℕ) (r : Result Declaration Trouble) (es : List Entry) →
      and_so r (λ d. and_then (attrs_at u.end d.place d.specs left) (λ attrs rest.
      with_head (record { place = place; unit = u.place; depth = depth; declaration = d; attrs = attrs })
      (more (depth_behind depth d) rest))) ≡ Ok es → Filed es
  by_declaration place depth left (Err t) es e = absurd (cc)
  by_declaration place depth left (Ok d) es e = by_attrs place depth d (attrs_at u.end d.place d.specs left) es e

  by_code : (b : Bool) (place depth code : ℕ) (left : List ℕ) (es : List Entry) →
      ◌≡◌ {A = Entries} (if b then more (depth - 1) left
      else and_so (declaration_of u.table code) (λ d. and_then (attrs_at u.end d.place d.specs left) (λ attrs rest.
      with_head (record { place = place; unit = u.place; depth = depth; declaration = d; attrs = attrs })
      (more (depth_behind depth d) rest)))) (Ok es) → Filed es
  by_code true place depth code left es e = ih (depth - 1) left es e
  by_code false place depth code left es e = by_declaration place depth left (declaration_of u.table code) es e

  by_entry : (place depth : ℕ) (r : Result (ℕ × List ℕ) Gap) (es : List Entry) →
      and_then (whole r) (entry_behind u more place depth) ≡ Ok es → Filed es
  by_entry place depth (Err gap) es e = absurd (cc)
  by_entry place depth (Ok read) es e = by_code (read.0 == 0) place depth read.0 read.1 es e

entries_filed : (u : UnitBounds) (n depth : ℕ) (left : List ℕ) (es : List Entry) → entries_within u n depth left ≡ Ok es →
    AllOf (λ (e : Entry). e.unit ≡ u.place) es
unfolding entries_within
entries_filed u zero depth [] es e = let same : [] ≡ es = cc in subst (AllOf (λ (e : Entry). e.unit ≡ u.place)) same tt
entries_filed u zero depth (b ∷ left) es e = absurd (cc)
entries_filed u (suc n) depth [] es e = let same : [] ≡ es = cc in subst (AllOf (λ (e : Entry). e.unit ≡ u.place)) same tt
entries_filed u (suc n) depth (b ∷ left) es e =
    by_entry u (entries_within u n) (λ depth rest es f. entries_filed u n depth rest es f) (u.end - length (b ∷ left)) depth
    (uleb_at (b ∷ left)) es e

-- Units have different offsets.

abbrev Ascend : ℕ → List Unit → Type 0
Ascend lo [] = Prim.Unit {0}
Ascend lo (u ∷ us) = (lo ≤ u.place) × Ascend (u.place + 1) us

ascend_less : (less lo : ℕ) (us : List Unit) → less ≤ lo → Ascend lo us → Ascend less us
ascend_less less lo [] h up = tt
ascend_less less lo (u ∷ us) h up = let g = up.0 in (omega arith, up.1)

units_ascend : (abbrevs : List ℕ) (test : Unit → Bool) (lo to : ℕ) (ws : List Walked) (us : List Unit) → AreBehind lo to ws →
    AllZip (IsGoodUnit abbrevs test) ws us → Ascend lo us
units_ascend abbrevs test lo to [] [] b z = tt
units_ascend abbrevs test lo to [] (u ∷ us) b z = absurd z
units_ascend abbrevs test lo to (w ∷ ws) [] b z = absurd z
units_ascend abbrevs test lo to (w ∷ ws) (u ∷ us) b z =
    let place : u.place ≡ w.place = (unit_read abbrevs w u z.0.0).place in
    let g : lo ≤ w.place = b.0 in (
      omega (arith, place, g),
      ascend_less (u.place + 1) (end_of w) us (omega (arith, place)) (units_ascend abbrevs test (end_of w) to ws us b.2 z.1),
    )

all_low : (lo : ℕ) (us : List Unit) → Ascend lo us → AllOf (λ (u : Unit). lo ≤ u.place) us
all_low lo [] up = tt
all_low lo (u ∷ us) up =
    let g : lo ≤ u.place = up.0 in
    (g, map_all (λ (v : Unit). u.place + 1 ≤ v.place) (λ (v : Unit). lo ≤ v.place) (λ v h. omega arith) us (all_low (u.place + 1) us up.1))

both_all : {A : Type 0} (P Q : A → Type 0) (xs : List A) → AllOf P xs → AllOf Q xs → AllOf (λ x. P x × Q x) xs
both_all P Q [] p q = tt
both_all P Q (x ∷ xs) p q = ((p.0, q.0), both_all P Q xs p.1 q.1)

found_each : (lo : ℕ) (us : List Unit) → Ascend lo us → AllOf (λ (u : Unit). find (λ (v : Unit). v.place == u.place) us ≡ Some u) us
found_each lo [] up = tt
found_each lo (u ∷ us) up =
    let same : (u.place == u.place) ≡ true = grind (arith, nat_tests) in (
      ap (λ (b : Bool). if b then Some u else find (λ (v : Unit). v.place == u.place) us) same,
      map_all (λ (w : Unit). (u.place + 1 ≤ w.place) × (find (λ (v : Unit). v.place == w.place) us ≡ Some w))
          (λ (w : Unit). find (λ (v : Unit). v.place == w.place) (u ∷ us) ≡ Some w)
          (λ w h. let other : (u.place == w.place) ≡ false = apart u.place w.place h.0 in
          ap (λ (b : Bool). if b then Some u else find (λ (v : Unit). v.place == w.place) us) other ∙ h.1) us
          (both_all (λ (w : Unit). u.place + 1 ≤ w.place) (λ (w : Unit). find (λ (v : Unit). v.place == w.place) us ≡ Some w) us
          (all_low (u.place + 1) us up.1) (found_each (u.place + 1) us up.1)),
    )
  where
    apart : (a b : ℕ) → a + 1 ≤ b → (a == b) ≡ false
    apart a b h = grind (arith, nat_tests)

-- The unit of each entry of each unit

all_filed : (abbrevs : List ℕ) (test : Unit → Bool) (ws : List Walked) (us : List Unit) → AllZip (IsGoodUnit abbrevs test) ws us →
    AllOf (λ (u : Unit). AllOf (λ (e : Entry). e.unit ≡ u.place) u.entries) us
all_filed abbrevs test [] [] z = tt
all_filed abbrevs test [] (u ∷ us) z = absurd z
all_filed abbrevs test (w ∷ ws) [] z = absurd z
all_filed abbrevs test (w ∷ ws) (u ∷ us) z =
    let r = unit_read abbrevs w u z.0.0 in (
      map_all (λ (e : Entry). e.unit ≡ w.place) (λ (e : Entry). e.unit ≡ u.place) (λ e h. h ∙ sym r.place) u.entries
          (entries_filed _ (length r.left) 0 r.left u.entries r.entries),
      all_filed abbrevs test ws us z.1,
    )

abbrev pub IsFiled : NameSections → Unit → Type 0
IsFiled s u = AllOf (λ (e : Entry). unit_of_entry s e ≡ Some u) u.entries

pub units_filed : (s : NameSections) → IsFree (HasDwarfFault (unit_fault_places s.units)) → AllOf (IsFiled s) (units s.units)
units_filed s free =
    let good = sound_units s.units free in
    let test : Unit → Bool = is_sound_unit s.units.addr in
    map_all (λ (u : Unit). AllOf (λ (e : Entry). e.unit ≡ u.place) u.entries
    × (find (λ (v : Unit). v.place == u.place) (units s.units) ≡ Some u)) (IsFiled s)
    (λ u h. map_all (λ (e : Entry). e.unit ≡ u.place) (λ (e : Entry). unit_of_entry s e ≡ Some u)
    (λ e filed. ap (λ (n : ℕ). find (λ (v : Unit). v.place == n) (units s.units)) filed ∙ h.1) u.entries h.0) (units s.units)
    (both_all (λ (u : Unit). AllOf (λ (e : Entry). e.unit ≡ u.place) u.entries)
    (λ (u : Unit). find (λ (v : Unit). v.place == u.place) (units s.units) ≡ Some u) (units s.units)
    (all_filed s.units.abbrevs test (walked 5 s.units.info) (units s.units) good)
    (found_each 0 (units s.units) (units_ascend s.units.abbrevs test 0 (length s.units.info) (walked 5 s.units.info) (units s.units)
    (units_behind s.units free) good)))
