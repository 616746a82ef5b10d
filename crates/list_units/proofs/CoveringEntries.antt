-- The entries that cover an address, unit by unit.
use Rattle.std.proofs.Common.{◌≡◌, ◌∙◌, ◌++◌, ◌∷◌, [], ℕ, Bool, true, false, List, Option, Some, None, refl, sym, ap, map, filter}
use Rattle.std.specs.Prelude.{if◌then◌else◌, flat_map, filter_map}
use Rattle.std.specs.List.{list_any}
use Rattle.std.proofs.lemmas.List.{map-append}
use Rattle.std.proofs.lemmas.List.Elements.{filter-append}
use Rattle.answer_runs.specs.declared.range.Range.{Range}
use Rattle.answer_runs.specs.AddressRanges.{holds_address}
use Rattle.answer_runs.specs.Choices.{first_of}
use Rattle.dw_unit.specs.CompUnits.{Entry, Unit, units, enclosing}
use Rattle.cover_lists.specs.declared.cover_tree.Cover.{Cover}
use Rattle.cover_lists.specs.declared.groups.RangedEntry.{RangedEntry}
use Rattle.dw_lists.specs.Faults.{ListSections}
use Rattle.list_units.specs.Gathering.{SeenEntry, seen_as, seen_in, seen_kept, ranges_index}
use Rattle.cover_lists.specs.Groups.{group_holds, held_places}
use Rattle.list_units.specs.RangeReading.{all_seen}
use Rattle.cover_lists.specs.EntryAddresses.{first_start}
use Rattle.dw_lists.specs.Ranges.{Ranged, named_entry, ranges_of, ranged_from, ranged_in, covering}
use Rattle.cover_lists.specs.Located.{hold}
use Rattle.dw_lists.specs.UnitLists.{own_place}

abbrev covered_by : List Ranged → ℕ → List ℕ
covered_by rs a = map (λ (r : Ranged). r.entry.place) (filter (λ (r : Ranged). hold r.own a) rs)

-- The offsets of the entries whose ranges contain the address.
abbrev places_held : List SeenEntry → List ℕ
places_held xs = map (λ (x : SeenEntry). x.place) (filter (λ (x : SeenEntry). x.held) xs)

places_append : (xs ys : List SeenEntry) → places_held (xs ++ ys) ≡ places_held xs ++ places_held ys
places_append xs ys =
    ap (map (λ (x : SeenEntry). x.place)) (filter-append (λ (x : SeenEntry). x.held) xs ys)
    ∙ map-append (λ (x : SeenEntry). x.place) (filter (λ (x : SeenEntry). x.held) xs) (filter (λ (x : SeenEntry). x.held) ys)

module _ (s : ListSections) (u : Unit) (a : ℕ) where
  one_covered : (e : Entry) (own nearest : Option (List Range)) (more : List Ranged) →
      covered_by (record { entry = e; own = own; nearest = nearest } ∷ more) a
      ≡ places_held (seen_as s u e own a) ++ covered_by more a
  one_covered e None nearest more = refl
  one_covered e (Some ranges) nearest more = step (list_any (holds_address a) ranges)
    where
      step : (b : Bool) →
          map (λ (r : Ranged). r.entry.place)
          (if b then record { entry = e; own = Some ranges; nearest = nearest } ∷ filter (λ (r : Ranged). hold r.own a) more
          else filter (λ (r : Ranged). hold r.own a) more)
          ≡ map (λ (x : SeenEntry). x.place) (if b then record {
            place = e.place;
            own = own_place u;
            index = ranges_index e.attrs;
            entry = named_entry s.units.addr u e;
            first = first_start ranges;
            held = b;
          } ∷ [] else [])
          ++ covered_by more a
      step true = refl
      step false = refl

  own_covered : (before es : List Entry) → covered_by (ranged_from (ranges_of s u) before es) a ≡ places_held (seen_in s u es a)
  own_covered before [] = refl
  own_covered before (e ∷ es) =
      one_covered e (ranges_of s u e) (first_of (filter_map (ranges_of s u) (e ∷ enclosing e.depth before)))
      (ranged_from (ranges_of s u) (e ∷ before) es)
      ∙ ap (λ (l : List ℕ). places_held (seen_as s u e (ranges_of s u e) a) ++ l)
      (own_covered (e ∷ before) es)
      ∙ sym (places_append (seen_as s u e (ranges_of s u e) a) (seen_in s u es a))

units_covered : (s : ListSections) (us : List Unit) (a : ℕ) → covered_by (flat_map (ranged_in s) us) a
    ≡ places_held (flat_map (λ (u : Unit). seen_in s u u.entries a) us)
units_covered s [] a = refl
units_covered s (u ∷ us) a =
    ap (map (λ (r : Ranged). r.entry.place)) (filter-append (λ (r : Ranged). hold r.own a) (ranged_in s u) (flat_map (ranged_in s) us))
    ∙ map-append (λ (r : Ranged). r.entry.place) (filter (λ (r : Ranged). hold r.own a) (ranged_in s u))
    (filter (λ (r : Ranged). hold r.own a) (flat_map (ranged_in s) us))
    ∙ (λ i. own_covered s u a [] u.entries i ++ units_covered s us a i)
    ∙ sym (places_append (seen_in s u u.entries a) (flat_map (λ (u : Unit). seen_in s u u.entries a) us))

places_kept : (covers : List Cover) (rs : List RangedEntry) (a : ℕ) → held_places covers rs a ≡ places_held (seen_kept covers rs a)
places_kept covers [] a = refl
places_kept covers (r ∷ rs) a = step (group_holds covers r.group a) (places_kept covers rs a)
  where
    step : (b : Bool) → held_places covers rs a ≡ places_held (seen_kept covers rs a) →
        map (λ (r : RangedEntry). r.place)
        (if b then r ∷ filter (λ (r : RangedEntry). group_holds covers r.group a) rs else filter
        (λ (r : RangedEntry). group_holds covers r.group a) rs)
        ≡ map (λ (x : SeenEntry). x.place) (if b then record {
          place = r.place;
          own = r.own;
          index = r.index;
          entry = r.entry;
          first = r.first;
          held = b;
        }
        ∷ filter (λ (x : SeenEntry). x.held) (seen_kept covers rs a)
        else filter (λ (x : SeenEntry). x.held) (seen_kept covers rs a))
    step true e = ap (λ (l : List ℕ). r.place ∷ l) e
    step false e = e

-- The kept entries whose ranges contain an address are those that cover it.
pub held_are : (s : ListSections) (covers : List Cover) (kept : List RangedEntry) (a : ℕ) → seen_kept covers kept a ≡ all_seen s a →
    held_places covers kept a ≡ covering s a
held_are s covers kept a e = places_kept covers kept a ∙ ap places_held e ∙ sym (units_covered s (units s.units) a)
