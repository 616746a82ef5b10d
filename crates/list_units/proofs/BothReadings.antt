-- Reading ranges together with locations.
use Rattle.std.proofs.Common.{◌≡◌, ◌||◌, ℕ, Bool, true, false, Option, refl}
use Rattle.std.specs.Option.{option_or}
use Rattle.rb_bytes.specs.FirstFault.{IsFree}
use Rattle.rb_bytes.proofs.Options.{both_none}
use Rattle.table_core.specs.DebugUnits.{Walked, walked, first_place, other_version}
use Rattle.dw_unit.specs.CompUnits.{unit_of}
use Rattle.dw_unit.specs.Faults.{HasDwarfFault, bad_address_table, is_bad, unit_fault_places}
use Rattle.dw_unit.proofs.NoFaults.{AreAbsent, absent, free_of}
use Rattle.dw_lists.specs.Faults.{ListSections, bad_table, has_bad_offset, location_places, range_places}
use Rattle.dw_lists.specs.Lists.{locations_kind, ranges_kind}
use Rattle.list_units.specs.PlaceReading as places
use Rattle.list_units.specs.RangeReading.{is_bad_unit}
use Rattle.list_units.proofs.RangeFaults.{place_none}

more_bad : (a b c : Bool) → (a || b) ≡ true → (a || (b || c)) ≡ true
more_bad true b c e = refl
more_bad false true c e = refl
more_bad false false c e = absurd (cc)

-- A unit with a fault of ranges has a fault of locations.
bad_before : (s : ListSections) (w : Walked) → is_bad_unit s w ≡ true → places.is_bad_unit s w ≡ true
bad_before s w e =
    more_bad (is_bad s.units w) (has_bad_offset ranges_kind s.ranges (unit_of s.units.abbrevs w))
    (has_bad_offset locations_kind s.locations (unit_of s.units.abbrevs w)) e

-- If locations have no fault, ranges have none.
pub ranges_free : (s : ListSections) → IsFree (HasDwarfFault (location_places s)) → IsFree (HasDwarfFault (range_places s))
ranges_free s free =
    let none : AreAbsent (location_places s) = absent (location_places s) free in
    let ranged : Option ℕ = bad_table ranges_kind s.ranges s.units in
    let located : Option ℕ = bad_table locations_kind s.locations s.units in
    let version = both_none (unit_fault_places s.units).version (option_or (other_version 5 s.ranges) (other_version 5 s.locations))
    none.version in
    let lists = both_none (other_version 5 s.ranges) (other_version 5 s.locations) version.1 in
    let bad = both_none (first_place (places.is_bad_unit s) (walked 5 s.units.info))
    (option_or (bad_address_table s.units.addr) (option_or ranged located)) none.bad in
    let later = both_none (bad_address_table s.units.addr) (option_or ranged located) bad.1 in
    let tables = both_none ranged located later.1 in
    let units = place_none (is_bad_unit s) (places.is_bad_unit s) (bad_before s) (walked 5 s.units.info) bad.0 in
    free_of (range_places s) (record {
      version = λ i. option_or (version.0 i) (lists.0 i);
      form = none.form;
      high = none.high;
      bad = λ i. option_or (units i) (option_or (later.0 i) (tables.0 i));
    })
