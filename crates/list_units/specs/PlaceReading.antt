-- The result of reading the locations of some units.
use Rattle.std.specs.Prelude.{◌≡◌, ◌||◌, ◌++◌, ℕ, Bool, List, if◌then◌else◌, flat_map, Some, None}
use Rattle.rb_bytes.specs.FirstFault.{IsFree}
use Rattle.answer_runs.specs.Choices.{lower, least}
use Rattle.table_core.specs.DebugUnits.{Walked, first_place}
use Rattle.dw_unit.specs.CompUnits.{Unit, unit_of, units}
use Rattle.dw_unit.specs.Declarations.{has_bad_form, has_bad_high}
use Rattle.dw_unit.specs.Faults.{HasDwarfFault, declarations_of, places_with, unformed, is_bad}
use Rattle.dw_unit.specs.ListedEntries.{ListedEntry}
use Rattle.dw_unit.specs.ListedUnits.{plain_unit}
use Rattle.cover_lists.specs.declared.groups.Groups.{Groups}
use Rattle.list_units.specs.declared.located_attr.Locations.{Locations}
use Rattle.list_units.specs.declared.place_reading.PlaceProgress.{PlaceProgress}
use Rattle.list_units.specs.declared.placing.UnitFaults.{UnitFaults}
use Rattle.dw_lists.specs.declared.named_list.NamedList.{NamedList}
use Rattle.dw_lists.specs.Faults.{ListSections, bad_list_tables, has_bad_offsets, location_places}
use Rattle.cover_lists.specs.Groups.{AreNumbered}
use Rattle.dw_lists.specs.Lists.{ranges_kind, locations_kind}
use Rattle.dw_lists.specs.Locations.{entry_says, places_said, PlaceSaid}
use Rattle.list_units.specs.Listing.{AreNamesOf, unit_items, all_items}
use Rattle.list_units.specs.Placing.{IsUnitPlaced}
use Rattle.list_units.specs.RangeReading.{units_of}
use Rattle.dw_lists.specs.Ranges.{ranged_in}
use Rattle.list_units.specs.ReadLists.{unit_lists}
use Rattle.cover_lists.specs.KeptLists.{all_say}
use Rattle.list_units.specs.UnitLocations.{AreHeld, all_located}
use Rattle.dw_lists.specs.declared.indexed_unit.IndexedUnit.{IndexedUnit}
use Rattle.dw_lists.specs.IndexedUnits.{indexed_of, indexed_units}

-- A unit that can't be read, or an attribute of it has a bad offset of a list of either kind.
abbrev pub is_bad_unit : ListSections → Walked → Bool
is_bad_unit s w = is_bad s.units w || has_bad_offsets s w

-- The locations of a unit at an address.
abbrev pub unit_says : ListSections → ℕ → Unit → List PlaceSaid
unit_says s p u = flat_map (entry_says s u p) (ranged_in s u)

-- All units were read: their locations, and the lowest tables with lists that can't be read.
pub record AreGathered (s : ListSections) (ws : List Walked) (p : PlaceProgress) : Type 0 where
  pub held : AreHeld p.groups.count p.kept
  pub says : (a : ℕ) → all_located p.groups.covers.items p.kept.lists.items p.kept.located.items a
      ≡ flat_map (unit_says s a) (units_of s ws)
  pub ranges : p.bad_ranges ≡ least (flat_map (bad_list_tables ranges_kind s.ranges s.units.addr) (units_of s ws))
  pub locations : p.bad_locations ≡ least (flat_map (bad_list_tables locations_kind s.locations s.units.addr)
      (units_of s ws))
  pub listed : all_say p.kept.lists.items ≡ flat_map (unit_lists s) (units_of s ws)
  pub names : AreNamesOf p.kept.lists.items p.named.items (flat_map (unit_items s) (units_of s ws))
  pub indexes : p.indexed.items ≡ flat_map (indexed_of locations_kind) (units_of s ws)

-- `p` is the result of reading the locations of the units `ws`.
pub record IsProgress (s : ListSections) (ws : List Walked) (p : PlaceProgress) : Type 0 where
  pub numbered : AreNumbered p.groups
  pub form : p.bad_form ≡ least (places_with has_bad_form (flat_map (declarations_of s.units.abbrevs) ws))
  pub high : p.bad_high ≡ least (places_with has_bad_high (flat_map (declarations_of s.units.abbrevs) ws))
  pub unformed_are : p.unformed ≡ least (flat_map (λ w. unformed (unit_of s.units.abbrevs w)) ws)
  pub bad : p.bad ≡ first_place (is_bad_unit s) ws
  pub gathered : p.bad ≡ None → AreGathered s ws p

-- The entries of the unit at an offset were added, with the faults of its lists.
pub record IsUnitAdded (s : ListSections) (es : List ListedEntry) (place : ℕ) (old new : PlaceProgress) : Type 0 where
  pub faults : UnitFaults
  pub placed : IsUnitPlaced s (plain_unit es) old.groups old.kept old.named.items new.groups new.kept new.named.items
      faults
  pub ranges : new.bad_ranges ≡ lower old.bad_ranges faults.ranges.bad
  pub locations : new.bad_locations ≡ lower old.bad_locations faults.locations.bad
  pub indexes : new.indexed.items ≡ old.indexed.items ++ indexed_of locations_kind (plain_unit es)
  pub bad : new.bad ≡ (if faults.ranges.lacks_offset || faults.locations.lacks_offset then Some place else old.bad)
  pub form : new.bad_form ≡ old.bad_form
  pub high : new.bad_high ≡ old.bad_high
  pub unformed_is : new.unformed ≡ old.unformed

-- The locations of sections without a fault, and the indexes that units use.
pub record ArePlacesOf (s : ListSections) (groups : Groups) (kept : Locations) (named : List NamedList)
    (indexed : List IndexedUnit) : Type 0 where
  pub free : IsFree (HasDwarfFault (location_places s))
  pub numbered : AreNumbered groups
  pub held : AreHeld groups.count kept
  pub says : (a : ℕ) → all_located groups.covers.items kept.lists.items kept.located.items a ≡ places_said s a
  pub listed : all_say kept.lists.items ≡ flat_map (unit_lists s) (units s.units)
  pub names : AreNamesOf kept.lists.items named (all_items s)
  pub indexes : indexed ≡ indexed_units locations_kind s.units
