-- Ranges and locations of the entries of a unit, one entry after another.
use Rattle.std.specs.Prelude.{◌≡◌, ◌++◌, ℕ, true, List, reverse, flat_map}
use Rattle.answer_runs.specs.Choices.{least}
use Rattle.dw_unit.specs.declared.entry.Attr.{Attr}
use Rattle.dw_unit.specs.CompUnits.{Entry, Unit}
use Rattle.cover_lists.specs.declared.groups.Groups.{Groups}
use Rattle.list_units.specs.declared.located_attr.Locations.{Locations}
use Rattle.list_units.specs.declared.placing.UnitContext.{UnitContext}
use Rattle.list_units.specs.declared.placing.UnitFaults.{UnitFaults}
use Rattle.list_units.specs.declared.placing.UnitState.{UnitState}
use Rattle.dw_lists.specs.declared.named_list.NamedList.{NamedList}
use Rattle.dw_lists.specs.Faults.{ListSections, lacks_offset, bad_list_tables}
use Rattle.cover_lists.specs.Groups.{Grow}
use Rattle.dw_lists.specs.KnownLists.{AreKnown, AreNoted, range_list}
use Rattle.dw_lists.specs.Lists.{ranges_kind, locations_kind}
use Rattle.dw_lists.specs.Locations.{entry_says}
use Rattle.list_units.specs.Listing.{ListItem, AreNamesOf, HasMore, entry_items, unit_items}
use Rattle.list_units.specs.OpenEntries.{AreOpen, chain}
use Rattle.dw_lists.specs.Ranges.{ranges_of, ranged_from, ranged_in}
use Rattle.list_units.specs.ReadLists.{offsets_in, unit_lists, AreListed, are_formed}
use Rattle.cover_lists.specs.KeptLists.{all_say}
use Rattle.dw_lists.specs.UnitLists.{ReadsLists}
use Rattle.list_units.specs.UnitLocations.{ReadsLocations, AreRead, AreHeld, all_located}

-- What a unit needs to read its ranges and locations.
pub record ReadsUnit (s : ListSections) (u : Unit) (c : UnitContext) : Type 0 where
  pub section : c.ranges.bytes.now ≡ s.ranges
  pub lists : ReadsLists ranges_kind s.units.addr u c.lists
  pub locations : ReadsLocations s u c.locations

-- The entries `done` of a unit were added, the last one first, and the entries `rest` are left. Locations that were
-- there before, and attributes that refer to lists, are kept.
pub record ArePlaced (s : ListSections) (u : Unit) (first : Groups) (old : Locations) (before : List NamedList)
    (g : Groups)
    (kept : Locations) (named : List NamedList) (state : UnitState) (done rest : List Entry) (attrs : List Attr)
    (f : UnitFaults) :
    Type 0 where
  pub grow : Grow first g
  pub known_are : AreKnown (range_list s u) g state.ranges
  pub read : AreRead s u old.lists.items kept.lists.items state.locations
  pub listed : are_formed attrs ≡ true →
      AreListed s u (offsets_in s u attrs) old.lists.items kept.lists.items state.locations
  pub held : AreHeld g.count kept
  pub says : (p : ℕ) → all_located g.covers.items kept.lists.items kept.located.items p
      ++ flat_map (entry_says s u p) (ranged_from (ranges_of s u) done rest)
      ≡ all_located first.covers.items old.lists.items old.located.items p
      ++ flat_map (entry_says s u p) (ranged_in s u)
  pub names : are_formed attrs ≡ true → (others : List ListItem) → AreNamesOf old.lists.items before others →
      (now : List ListItem) × AreNamesOf kept.lists.items named now
      × (now ++ flat_map (entry_items s u) rest ≡ others ++ unit_items s u)
  pub are_open : AreOpen (ranges_of s u) g (chain done) (reverse state.entries.items)
  pub ranges_noted : AreNoted ranges_kind s.ranges s.units.addr u attrs f.ranges
  pub locations_noted : AreNoted locations_kind s.locations s.units.addr u attrs f.locations

-- All entries of a unit were added, with the faults of its lists.
pub record IsUnitPlaced (s : ListSections) (u : Unit) (first : Groups) (old : Locations) (before : List NamedList)
    (g : Groups)
    (kept : Locations) (named : List NamedList) (f : UnitFaults) : Type 0 where
  pub grow : Grow first g
  pub held : AreHeld g.count kept
  pub says : (p : ℕ) → all_located g.covers.items kept.lists.items kept.located.items p
      ≡ all_located first.covers.items old.lists.items old.located.items p
      ++ flat_map (entry_says s u p) (ranged_in s u)
  pub listed : are_formed (flat_map (λ (e : Entry). e.attrs) u.entries) ≡ true →
      all_say kept.lists.items ≡ all_say old.lists.items ++ unit_lists s u
  pub names : are_formed (flat_map (λ (e : Entry). e.attrs) u.entries) ≡ true →
      HasMore old.lists.items kept.lists.items before named (unit_items s u)
  pub lacks_ranges : f.ranges.lacks_offset ≡ lacks_offset ranges_kind s.ranges u
  pub bad_ranges : f.ranges.bad ≡ least (bad_list_tables ranges_kind s.ranges s.units.addr u)
  pub lacks_locations : f.locations.lacks_offset ≡ lacks_offset locations_kind s.locations u
  pub bad_locations : f.locations.bad ≡ least (bad_list_tables locations_kind s.locations s.units.addr u)
