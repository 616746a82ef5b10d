-- The faults of `.debug_rnglists` and `.debug_loclists`, together with those of units: for each fault the place to
-- report.
use Rattle.std.specs.Prelude.{◌-◌, ◌*◌, ◌==◌, ◌&&◌, ◌||◌, ℕ, Bool, false, not, List, ◌++◌, nat_le, length, drop, map}
use Rattle.std.specs.Prelude.{filter, filter_map, Option, is_some, Result, Ok, Err, flat_map, unwrap_or, option_map}
use Rattle.std.specs.List.{list_any}
use Rattle.std.specs.Option.{option_or, option_map_or}
use Rattle.byteorder.specs.Endian.{little_number}
use Rattle.answer_runs.specs.Choices.{least}
use Rattle.table_core.specs.DebugUnits.{Walked, walked, first_place, other_version}
use Rattle.dw_unit.specs.declared.entry.Attr.{Attr}
use Rattle.dw_unit.specs.declared.trouble.Trouble.{Trouble}
use Rattle.dw_unit.specs.CompUnits.{Entry, Unit, Sections, units, unit_of}
use Rattle.dw_unit.specs.Faults.{FaultPlaces, unit_fault_places, is_bad, bad_address_table}
use Rattle.dw_lists.specs.Lists.{Kind, ranges_kind, locations_kind, has_list, table_below, list_offset, list_at}

-- The sections that ranges and locations are read from.
pub record ListSections : Type 0 where
  pub units : Sections
  pub ranges : List ℕ
  pub locations : List ℕ

abbrev pub list_sections_held : (info abbrevs addr ranges locations : List ℕ) → ListSections
list_sections_held info abbrevs addr ranges locations = record {
  units = record { info = info; abbrevs = abbrevs; addr = addr };
  ranges = ranges;
  locations = locations;
}

-- The attributes of a unit's entries that refer to lists.
abbrev pub list_attrs : Kind → Unit → List Attr
list_attrs k u = filter (has_list k) (flat_map (λ (e : Entry). e.attrs) u.entries)

-- If the offset of a list can't be read, or is past the section's end, that is the unit's fault.
abbrev pub lacks_offset : Kind → List ℕ → Unit → Bool
lacks_offset k section u = list_any (λ a. not (is_some (list_offset k section u a))) (list_attrs k u)

-- The unit can be read, and an attribute of it has a bad offset of a list.
abbrev pub has_bad_offset : Kind → List ℕ → Result Unit Trouble → Bool
has_bad_offset k section (Ok u) = lacks_offset k section u
has_bad_offset k section (Err e) = false

-- A table has a header with a version, address size 8, segment selector size 0 and a count, and then `count` offsets of
-- four bytes.
abbrev pub is_list_table : List ℕ → Bool
is_list_table bytes =
    nat_le 8 (length bytes) && little_number 2 (drop 2 bytes) == 8
    && nat_le (4 * little_number 4 (drop 4 bytes)) (length bytes - 8)

-- The place of a fault inside a list is the last table that begins at or below the list.
abbrev pub table_place : List ℕ → ℕ → ℕ
table_place section at = unwrap_or (option_map (λ (w : Walked). w.place) (table_below at (walked 5 section))) 0

-- The offsets of the lists to which the entries of a unit refer.
abbrev pub list_offsets : Kind → List ℕ → Unit → List ℕ
list_offsets k section u = filter_map (list_offset k section u) (list_attrs k u)

-- The places of the lists to which a unit refers and that can't be read.
abbrev pub bad_list_tables : Kind → List ℕ → List ℕ → Unit → List ℕ
bad_list_tables k section addr u =
    map (table_place section) (filter (λ at. not (is_some (list_at k section addr u at))) (list_offsets k section u))

-- The lowest place of a fault in a section of lists.
abbrev pub bad_table : Kind → List ℕ → Sections → Option ℕ
bad_table k section s = least
    (map (λ (w : Walked). w.place)
    (filter (λ (w : Walked). not (option_map_or is_list_table w.bytes false)) (walked 5 section))
    ++ flat_map (bad_list_tables k section s.addr) (units s))

-- Faults of units come first, then those of address tables, then those of lists.

-- The places of faults of ranges.
abbrev pub range_places : ListSections → FaultPlaces
range_places s = let p = unit_fault_places s.units in record {
  version = option_or p.version (other_version 5 s.ranges);
  form = p.form;
  high = p.high;
  bad =
      option_or
      (first_place (λ w. is_bad s.units w || has_bad_offset ranges_kind s.ranges (unit_of s.units.abbrevs w))
      (walked 5 s.units.info))
      (option_or (bad_address_table s.units.addr) (bad_table ranges_kind s.ranges s.units));
}

-- An attribute of the unit has a bad offset of a list of either kind.
abbrev pub has_bad_offsets : ListSections → Walked → Bool
has_bad_offsets s w =
    has_bad_offset ranges_kind s.ranges (unit_of s.units.abbrevs w) || has_bad_offset locations_kind s.locations
    (unit_of s.units.abbrevs w)

-- The places of faults of locations, with those of ranges.
abbrev pub location_places : ListSections → FaultPlaces
location_places s = let p = unit_fault_places s.units in record {
  version = option_or p.version (option_or (other_version 5 s.ranges) (other_version 5 s.locations));
  form = p.form;
  high = p.high;
  bad = option_or (first_place (λ w. is_bad s.units w || has_bad_offsets s w) (walked 5 s.units.info))
      (option_or (bad_address_table s.units.addr)
      (option_or (bad_table ranges_kind s.ranges s.units) (bad_table locations_kind s.locations s.units)));
}
