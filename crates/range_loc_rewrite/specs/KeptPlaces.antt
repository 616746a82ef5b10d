-- The fields that are kept of sections of locations without a fault.
use Rattle.std.specs.Prelude.{◌≡◌, ℕ, List, [], map, flat_map, slice_get, None}
use Rattle.std.specs.Option.{option_map_or}
use Rattle.rb_bytes.specs.FirstFault.{IsFree}
use Rattle.dw_unit.specs.CompUnits.{units}
use Rattle.dw_unit.specs.Faults.{HasDwarfFault}
use Rattle.cover_lists.specs.declared.cover_index.CoverIndex.{CoverIndex}
use Rattle.cover_lists.specs.declared.groups.RangedEntry.{RangedEntry}
use Rattle.list_units.specs.declared.located_attr.LocatedAttr.{LocatedAttr}
use Rattle.list_units.specs.declared.located_attr.Locations.{Locations}
use Rattle.cover_lists.specs.CoverIndex.{IsCoverIndex}
use Rattle.dw_lists.specs.declared.named_list.NamedList.{NamedList}
use Rattle.dw_lists.specs.Faults.{ListSections, location_places}
use Rattle.dw_lists.specs.Lists.{locations_kind}
use Rattle.dw_lists.specs.Locations.{places_said, PlaceSaid}
use Rattle.list_units.specs.Listing.{AreNamesOf, all_items}
use Rattle.list_units.specs.ReadLists.{unit_lists}
use Rattle.cover_lists.specs.KeptLists.{all_say}
use Rattle.list_units.specs.UnitLocations.{all_located, located_says}
use Rattle.dw_lists.specs.declared.indexed_unit.IndexedUnit.{IndexedUnit}
use Rattle.dw_lists.specs.IndexedUnits.{indexed_units}

-- An attribute's entry, with the group of its nearest ranges.
abbrev pub ranged_of : LocatedAttr → RangedEntry
ranged_of l = record { place = l.place; group = l.group; own = 0; index = None; entry = None; first = None }

-- The answer of the attribute with a number.
abbrev pub said_by_number : Locations → ℕ → ℕ → List PlaceSaid
said_by_number kept a k = option_map_or (located_says kept.lists.items a) (slice_get kept.located.items k) []

-- The location attributes, with the lists to which each unit refers and the attributes that do so; the index that finds
-- those whose ranges contain an address; and the list indexes that units use.
pub record ArePlacesKept (s : ListSections) (kept : Locations) (named : List NamedList) (index : CoverIndex)
    (indexed : List IndexedUnit) : Type 0 where
  pub free : IsFree (HasDwarfFault (location_places s))
  pub index_is : IsCoverIndex index.tree (map ranged_of kept.located.items) index
  pub says : (a : ℕ) → all_located index.tree kept.lists.items kept.located.items a ≡ places_said s a
  pub listed : all_say kept.lists.items ≡ flat_map (unit_lists s) (units s.units)
  pub names : AreNamesOf kept.lists.items named (all_items s)
  pub indexes : indexed ≡ indexed_units locations_kind s.units
