-- The locations of a unit depend on its listed entries only.
use Rattle.std.proofs.Common.{◌≡◌, ◌∙◌, ◌++◌, ◌∷◌, [], ℕ, Bool, true, false, List, Option, refl, sym, ap, subst, map}
use Rattle.std.specs.Prelude.{if◌then◌else◌, nat_lt, flat_map, filter_map}
use Rattle.std.specs.List.{cons_option}
use Rattle.answer_runs.specs.declared.range.Range.{Range}
use Rattle.answer_runs.specs.Choices.{least, first_of}
use Rattle.dw_unit.specs.declared.entry.Attr.{Attr}
use Rattle.dw_unit.specs.CompUnits.{Entry, Unit, enclosing}
use Rattle.dw_unit.specs.ListedEntries.{ListedEntry, listed}
use Rattle.dw_unit.specs.ListedUnits.{plain, plain_unit}
use Rattle.cover_lists.specs.declared.groups.Groups.{Groups}
use Rattle.list_units.specs.declared.located_attr.Locations.{Locations}
use Rattle.list_units.specs.declared.placing.UnitFaults.{UnitFaults}
use Rattle.dw_lists.specs.declared.named_list.NamedList.{NamedList}
use Rattle.dw_lists.specs.Faults.{ListSections}
use Rattle.dw_lists.specs.Lists.{ranges_kind, locations_kind}
use Rattle.dw_lists.specs.Locations.{entry_says, PlaceSaid}
use Rattle.list_units.specs.Listing.{HasMore}
use Rattle.list_units.specs.PlaceReading.{unit_says}
use Rattle.list_units.specs.Placing.{IsUnitPlaced}
use Rattle.dw_lists.specs.Ranges.{ranges_of, ranged_from}
use Rattle.list_units.specs.ReadLists.{firsts, read_at, offsets_in, unit_lists, are_formed}
use Rattle.cover_lists.specs.KeptLists.{all_say}
use Rattle.list_units.specs.UnitLocations.{all_located}
use Rattle.list_units.proofs.ListingFacts.{items_listed}
use Rattle.list_units.proofs.PlainUnits.{whole, attrs_listed, lacks_listed, bad_listed}

abbrev again : Entry → Entry
again e = plain (listed e)

enclosing_again : (depth : ℕ) (before : List Entry) → enclosing depth (map again before) ≡ map again (enclosing depth before)
enclosing_again depth [] = refl
enclosing_again depth (e ∷ before) = step (nat_lt e.depth depth) (enclosing_again e.depth before) (enclosing_again depth before)
  where
    step : (b : Bool) → enclosing e.depth (map again before) ≡ map again (enclosing e.depth before) →
        enclosing depth (map again before) ≡ map again (enclosing depth before) →
        (if b then again e ∷ enclosing e.depth (map again before) else enclosing depth (map again before))
        ≡ map again (if b then e ∷ enclosing e.depth before else enclosing depth before)
    step true inner outer = ap (λ (l : List Entry). again e ∷ l) inner
    step false inner outer = outer

module _ (s : ListSections) (place offset : ℕ) (first : Entry) (others : List Entry) where
  abbrev listed_one : Unit
  listed_one = plain_unit (map listed (first ∷ others))

  abbrev real : Unit
  real = whole s place offset (first ∷ others)

  ranges_again : (es : List Entry) → filter_map (ranges_of s listed_one) (map again es) ≡ filter_map (ranges_of s real) es
  ranges_again [] = refl
  ranges_again (e ∷ es) = ap (λ (l : List (List Range)). cons_option (ranges_of s real e) l) (ranges_again es)

  said_from : (p : ℕ) (before es : List Entry) →
      flat_map (entry_says s listed_one p) (ranged_from (ranges_of s listed_one) (map again before) (map again es))
      ≡ flat_map (entry_says s real p) (ranged_from (ranges_of s real) before es)
  said_from p before [] = refl
  said_from p before (e ∷ es) = (λ i. here i ++ said_from p (e ∷ before) es i)
    where
      nearest : first_of (filter_map (ranges_of s listed_one) (again e ∷ enclosing e.depth (map again before)))
          ≡ first_of (filter_map (ranges_of s real) (e ∷ enclosing e.depth before))
      nearest = ap (λ (l : List Entry). first_of (filter_map (ranges_of s listed_one) (again e ∷ l))) (enclosing_again e.depth before)
          ∙ ap (λ (l : List (List Range)). first_of l) (ranges_again (e ∷ enclosing e.depth before))

      here : entry_says s listed_one p (record {
        entry = again e;
        own = ranges_of s listed_one (again e);
        nearest = first_of (filter_map (ranges_of s listed_one) (again e ∷ enclosing e.depth (map again before)));
      })
          ≡ entry_says s real p (record {
            entry = e;
            own = ranges_of s real e;
            nearest = first_of (filter_map (ranges_of s real) (e ∷ enclosing e.depth before));
          })
      here = ap (λ (o : Option (List Range)). entry_says s real p (record { entry = e; own = ranges_of s real e; nearest = o })) nearest

said_listed : (s : ListSections) (place offset : ℕ) (es : List Entry) (p : ℕ) →
    unit_says s p (plain_unit (map listed es)) ≡ unit_says s p (whole s place offset es)
said_listed s place offset [] p = refl
said_listed s place offset (e ∷ es) p = plain_maps (e ∷ es) ∙ said_from s place offset e es p [] (e ∷ es)
  where
    maps : (ds : List Entry) → map plain (map listed ds) ≡ map again ds
    maps [] = refl
    maps (d ∷ ds) = ap (λ (l : List Entry). again d ∷ l) (maps ds)

    plain_maps : (ds : List Entry) →
        flat_map (entry_says s (plain_unit (map listed (e ∷ es))) p)
        (ranged_from (ranges_of s (plain_unit (map listed (e ∷ es)))) [] (map plain (map listed ds)))
        ≡ flat_map (entry_says s (plain_unit (map listed (e ∷ es))) p)
        (ranged_from (ranges_of s (plain_unit (map listed (e ∷ es)))) [] (map again ds))
    plain_maps ds = ap (λ (l : List Entry). flat_map (entry_says s (plain_unit (map listed (e ∷ es))) p)
        (ranged_from (ranges_of s (plain_unit (map listed (e ∷ es)))) [] l)) (maps ds)

lists_listed : (s : ListSections) (place offset : ℕ) (es : List Entry) →
    unit_lists s (plain_unit (map listed es)) ≡ unit_lists s (whole s place offset es)
lists_listed s place offset [] = refl
lists_listed s place offset (e ∷ es) =
    ap (λ (l : List Attr). read_at s (whole s place offset (e ∷ es)) (firsts (offsets_in s (whole s place offset (e ∷ es)) l)))
    (attrs_listed (e ∷ es))

-- The unit that was read.
pub unit_of_listed : (s : ListSections) (u : Unit) (es : List ListedEntry) (first g : Groups) (old kept : Locations)
    (before named : List NamedList) (f : UnitFaults) →
    map listed u.entries ≡ es → IsUnitPlaced s (plain_unit es) first old before g kept named f →
    IsUnitPlaced s u first old before g kept named f
unit_of_listed s u es first g old kept before named f is placed =
    let x : IsUnitPlaced s (plain_unit (map listed u.entries)) first old before g kept named f =
    subst (λ (l : List ListedEntry). IsUnitPlaced s (plain_unit l) first old before g kept named f) (sym is) placed in
    record {
      grow = x.grow;
      held = x.held;
      says = λ p. x.says p ∙ ap (λ (l : List PlaceSaid). all_located first.covers.items old.lists.items old.located.items p ++ l)
          (said_listed s u.place u.abbrev_offset u.entries p);
      listed = λ formed.
          x.listed (ap are_formed (attrs_listed u.entries) ∙ formed)
          ∙ ap (λ (l : List (ℕ → List (List ℕ))). all_say old.lists.items ++ l) (lists_listed s u.place u.abbrev_offset u.entries);
      names = λ formed.
          subst (HasMore old.lists.items kept.lists.items before named) (items_listed s u.place u.abbrev_offset u.entries)
          (x.names (ap are_formed (attrs_listed u.entries) ∙ formed));
      lacks_ranges = x.lacks_ranges ∙ lacks_listed s u.place u.abbrev_offset ranges_kind s.ranges u.entries;
      bad_ranges = x.bad_ranges ∙ ap least (bad_listed s u.place u.abbrev_offset ranges_kind s.ranges u.entries);
      lacks_locations = x.lacks_locations ∙ lacks_listed s u.place u.abbrev_offset locations_kind s.locations u.entries;
      bad_locations = x.bad_locations ∙ ap least (bad_listed s u.place u.abbrev_offset locations_kind s.locations u.entries);
    }
