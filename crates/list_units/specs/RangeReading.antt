-- The result of reading the ranges of some units.
use Rattle.std.specs.Prelude.{◌≡◌, ◌||◌, ◌++◌, ℕ, Bool, List, if◌then◌else◌, flat_map, map, Some, None}
use Rattle.answer_runs.specs.Choices.{lower, least}
use Rattle.table_core.specs.DebugUnits.{Walked, first_place}
use Rattle.table_core.specs.ReadSteps.{oks}
use Rattle.dw_unit.specs.CompUnits.{Unit, unit_of, units}
use Rattle.dw_unit.specs.Declarations.{has_bad_form, has_bad_high}
use Rattle.dw_unit.specs.Faults.{declarations_of, places_with, unformed, is_bad}
use Rattle.dw_unit.specs.ListedEntries.{ListedEntry}
use Rattle.dw_unit.specs.ListedUnits.{plain_unit}
use Rattle.list_units.specs.declared.range_reading.Progress.{Progress}
use Rattle.dw_lists.specs.declared.unit_ranges.ListFaults.{ListFaults}
use Rattle.rb_bytes.specs.FirstFault.{IsFree}
use Rattle.dw_unit.specs.Faults.{HasDwarfFault}
use Rattle.cover_lists.specs.declared.groups.Groups.{Groups}
use Rattle.cover_lists.specs.declared.groups.RangedEntry.{RangedEntry}
use Rattle.dw_lists.specs.Faults.{ListSections, range_places, has_bad_offset, bad_list_tables}
use Rattle.dw_lists.specs.Ranges.{covering}
use Rattle.list_units.specs.Gathering.{SeenEntry, seen_in, seen_kept, IsUnitGathered}
use Rattle.cover_lists.specs.Groups.{AreNumbered, AreWithin, held_places}
use Rattle.dw_lists.specs.Lists.{ranges_kind}
use Rattle.dw_lists.specs.declared.indexed_unit.IndexedUnit.{IndexedUnit}
use Rattle.dw_lists.specs.IndexedUnits.{indexed_of, indexed_units}

-- A unit that can't be read, or an attribute of it has a bad offset of a list.
abbrev pub is_bad_unit : ListSections → Walked → Bool
is_bad_unit s w = is_bad s.units w || has_bad_offset ranges_kind s.ranges (unit_of s.units.abbrevs w)

-- The units that can be read.
abbrev pub units_of : ListSections → List Walked → List Unit
units_of s ws = oks (map (unit_of s.units.abbrevs) ws)

-- All units were read: the addresses in their entries' ranges, and the lowest table with a list that can't be read.
pub record AreGathered (s : ListSections) (ws : List Walked) (p : Progress) : Type 0 where
  pub seen : (a : ℕ) → seen_kept p.groups.covers.items p.ranged.items a
      ≡ flat_map (λ (u : Unit). seen_in s u u.entries a) (units_of s ws)
  pub bad : p.bad_table ≡ least (flat_map (bad_list_tables ranges_kind s.ranges s.units.addr) (units_of s ws))
  pub indexes : p.indexed.items ≡ flat_map (indexed_of ranges_kind) (units_of s ws)

-- `p` is the result of reading the ranges of the units `ws`.
pub record IsProgress (s : ListSections) (ws : List Walked) (p : Progress) : Type 0 where
  pub numbered : AreNumbered p.groups
  pub within : AreWithin p.groups.count p.ranged.items
  pub form : p.bad_form ≡ least (places_with has_bad_form (flat_map (declarations_of s.units.abbrevs) ws))
  pub high : p.bad_high ≡ least (places_with has_bad_high (flat_map (declarations_of s.units.abbrevs) ws))
  pub unformed_are : p.unformed ≡ least (flat_map (λ w. unformed (unit_of s.units.abbrevs w)) ws)
  pub bad : p.bad ≡ first_place (is_bad_unit s) ws
  pub gathered : p.bad ≡ None → AreGathered s ws p

-- The entries of the unit at an offset were added, with the faults of its lists.
pub record IsUnitAdded (s : ListSections) (es : List ListedEntry) (place : ℕ) (old new : Progress) : Type 0 where
  pub faults : ListFaults
  pub gathered : IsUnitGathered s (plain_unit es) old.groups old.ranged.items new.groups new.ranged.items faults
  pub table : new.bad_table ≡ lower old.bad_table faults.bad
  pub indexes : new.indexed.items ≡ old.indexed.items ++ indexed_of ranges_kind (plain_unit es)
  pub bad : new.bad ≡ (if faults.lacks_offset then Some place else old.bad)
  pub form : new.bad_form ≡ old.bad_form
  pub high : new.bad_high ≡ old.bad_high
  pub unformed_is : new.unformed ≡ old.unformed

-- The entries with ranges of all units.
abbrev pub all_seen : ListSections → ℕ → List SeenEntry
all_seen s a = flat_map (λ (u : Unit). seen_in s u u.entries a) (units s.units)

-- The entries with ranges, and the indexes that units use, of sections without a fault.
pub record AreRangesOf (s : ListSections) (groups : Groups) (ranged : List RangedEntry)
    (indexed : List IndexedUnit) : Type 0 where
  pub free : IsFree (HasDwarfFault (range_places s))
  pub numbered : AreNumbered groups
  pub within : AreWithin groups.count ranged
  pub seen : (a : ℕ) → seen_kept groups.covers.items ranged a ≡ all_seen s a
  pub held : (a : ℕ) → held_places groups.covers.items ranged a ≡ covering s a
  pub indexes : indexed ≡ indexed_units ranges_kind s.units
