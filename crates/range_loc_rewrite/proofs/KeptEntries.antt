-- The kept entries are those of the sections, and their offsets ascend.
use Rattle.std.proofs.Common.{◌≡◌, ◌∙◌, ◌+◌, ◌≤◌, ◌++◌, ◌∷◌, [], ℕ, List, Option, Some, None, refl, sym, ap, subst, arith, map}
use Rattle.std.specs.Prelude.{flat_map}
use Rattle.std.proofs.lemmas.List.{map-append}
use Rattle.answer_runs.specs.declared.range.Range.{Range}
use Rattle.dw_unit.specs.CompUnits.{Entry, Unit, units, entries}
use Rattle.answer_runs.proofs.Ascending.{Ascends}
use Rattle.cover_lists.specs.declared.cover_tree.Cover.{Cover}
use Rattle.cover_lists.specs.declared.groups.RangedEntry.{RangedEntry}
use Rattle.dw_lists.specs.Faults.{ListSections}
use Rattle.list_units.specs.Gathering.{SeenEntry, seen_as, seen_in, seen_kept}
use Rattle.list_units.specs.RangeReading.{all_seen}
use Rattle.dw_lists.specs.Ranges.{ranges_of}

abbrev place_of : Entry → ℕ
place_of e = e.place

abbrev seen_place : SeenEntry → ℕ
seen_place x = x.place

abbrev pub kept_place : RangedEntry → ℕ
kept_place r = r.place

pub ascends_less : (less lo : ℕ) (ns : List ℕ) → less ≤ lo → Ascends lo ns → Ascends less ns
ascends_less less lo [] h up = tt
ascends_less less lo (n ∷ ns) h up = (omega (arith, h, up.0), up.1)

module _ (s : ListSections) (a : ℕ) where
  one_ascends : (e : Entry) (u : Unit) (own : Option (List Range)) (lo : ℕ) (ns : List ℕ) → lo ≤ e.place → Ascends (e.place + 1) ns →
      Ascends lo (map seen_place (seen_as s u e own a) ++ ns)
  one_ascends e u None lo ns h up = ascends_less lo (e.place + 1) ns (omega (arith, h)) up
  one_ascends e u (Some ranges) lo ns h up = (h, up)

  unit_ascends : (u : Unit) (es ds : List Entry) (zs : List SeenEntry) (lo : ℕ) → Ascends lo (map place_of (es ++ ds)) →
      ((lo : ℕ) → Ascends lo (map place_of ds) → Ascends lo (map seen_place zs)) → Ascends lo (map seen_place (seen_in s u es a ++ zs))
  unit_ascends u [] ds zs lo up more = more lo up
  unit_ascends u (e ∷ es) ds zs lo up more =
      let here : List SeenEntry = seen_as s u e (ranges_of s u e) a in
      let joined : map seen_place ((here ++ seen_in s u es a) ++ zs) ≡ map seen_place here ++ map seen_place (seen_in s u es a ++ zs) =
      ap (map seen_place) (assoc here (seen_in s u es a) zs) ∙ map-append seen_place here (seen_in s u es a ++ zs) in
      subst (Ascends lo) (sym joined)
      (one_ascends e u (ranges_of s u e) lo (map seen_place (seen_in s u es a ++ zs)) up.0
      (unit_ascends u es ds zs (e.place + 1) up.1 more))
    where
      assoc : (x y z : List SeenEntry) → ((x ++ y) ++ z) ≡ x ++ (y ++ z)
      assoc [] y z = refl
      assoc (q ∷ x) y z = ap (λ (l : List SeenEntry). q ∷ l) (assoc x y z)

  units_ascend : (us : List Unit) (lo : ℕ) → Ascends lo (map place_of (flat_map (λ (u : Unit). u.entries) us)) →
      Ascends lo (map seen_place (flat_map (λ (u : Unit). seen_in s u u.entries a) us))
  units_ascend [] lo up = up
  units_ascend (u ∷ us) lo up =
      unit_ascends u u.entries (flat_map (λ (u : Unit). u.entries) us) (flat_map (λ (u : Unit). seen_in s u u.entries a) us) lo up
      (λ lo up. units_ascend us lo up)

kept_places : (covers : List Cover) (kept : List RangedEntry) (a : ℕ) → map seen_place (seen_kept covers kept a) ≡ map kept_place kept
kept_places covers [] a = refl
kept_places covers (r ∷ kept) a = ap (λ (l : List ℕ). r.place ∷ l) (kept_places covers kept a)

pub kept_ascend : (s : ListSections) (covers : List Cover) (kept : List RangedEntry) → ((a : ℕ) → seen_kept covers kept a ≡ all_seen s a) →
    Ascends 0 (map (λ (e : Entry). e.place) (entries s.units)) → Ascends 0 (map kept_place kept)
kept_ascend s covers kept seen up =
    subst (Ascends 0) (sym (ap (map seen_place) (seen 0)) ∙ kept_places covers kept 0) (units_ascend s 0 (units s.units) 0 up)
