-- The fault of the sections of locations that is reported, and the result if there is none.
use Rattle.std.proofs.Common.{◌≡◌, ◌∙◌, ℕ, List, Option, Some, None, refl, sym, ap, map, filter}
use Rattle.std.specs.Prelude.{flat_map, not, false}
use Rattle.std.specs.Option.{option_or, option_map_or}
use Rattle.rb_bytes.specs.FirstFault.{IsFree}
use Rattle.rb_bytes.specs.declared.fault.FaultKind.TheVariants as fault
use Rattle.answer_runs.specs.Choices.{lower, least}
use Rattle.table_core.specs.DebugUnits.{Walked, walked, first_place}
use Rattle.dw_unit.specs.Faults.{HasDwarfFault, bad_address_table}
use Rattle.dw_unit.specs.CompUnits.{units}
use Rattle.dw_unit.proofs.Leasts.{least-append}
use Rattle.list_units.specs.declared.place_reading.PlaceProgress.{PlaceProgress}
use Rattle.dw_lists.specs.Faults.{ListSections, location_places, is_list_table, bad_list_tables, bad_table}
use Rattle.dw_lists.specs.Lists.{ranges_kind, locations_kind}
use Rattle.list_units.specs.PlaceReading.{IsProgress, is_bad_unit, ArePlacesOf}
use Rattle.list_units.proofs.RangeFaults.{left_none}

abbrev pub of_tables : List ℕ → List ℕ
of_tables section = map (λ (w : Walked). w.place) (filter (λ (w : Walked). not (option_map_or is_list_table w.bytes false))
    (walked 5 section))

abbrev of_units : ListSections → Option ℕ
of_units s = first_place (is_bad_unit s) (walked 5 s.units.info)

-- Units come first, then address tables, then tables of lists.
pub bad_is : (s : ListSections) (p : PlaceProgress) (o q : Option ℕ) → IsProgress s (walked 5 s.units.info) p → o
    ≡ least (of_tables s.ranges) →
    q ≡ least (of_tables s.locations) →
    option_or p.bad (option_or (bad_address_table s.units.addr) (option_or (lower o p.bad_ranges) (lower q p.bad_locations)))
    ≡ (location_places s).bad
bad_is s p o q are ranges locations = by_bad p.bad refl
  where
    by_bad : (x : Option ℕ) → p.bad ≡ x →
        option_or x (option_or (bad_address_table s.units.addr) (option_or (lower o p.bad_ranges) (lower q p.bad_locations)))
        ≡ (location_places s).bad
    by_bad (Some n) e =
        ap (λ (x : Option ℕ). option_or x (option_or (bad_address_table s.units.addr)
        (option_or (bad_table ranges_kind s.ranges s.units) (bad_table locations_kind s.locations s.units)))) (sym e ∙ are.bad)
    by_bad None e =
        let read = are.gathered e in
        let of_ranges : lower o p.bad_ranges ≡ bad_table ranges_kind s.ranges s.units =
        (λ i. lower (ranges i) (read.ranges i))
        ∙ sym (least-append (of_tables s.ranges) (flat_map (bad_list_tables ranges_kind s.ranges s.units.addr) (units s.units))) in
        let of_locations : lower q p.bad_locations ≡ bad_table locations_kind s.locations s.units =
        (λ i. lower (locations i) (read.locations i))
        ∙ sym (least-append (of_tables s.locations) (flat_map (bad_list_tables locations_kind s.locations s.units.addr) (units s.units))) in
        (λ i. option_or (bad_address_table s.units.addr) (option_or (of_ranges i) (of_locations i)))
        ∙ ap (λ (x : Option ℕ). option_or x (option_or (bad_address_table s.units.addr)
        (option_or (bad_table ranges_kind s.ranges s.units) (bad_table locations_kind s.locations s.units)))) (sym e ∙ are.bad)

-- Without a fault all entries were read.
pub places_read : (s : ListSections) (p : PlaceProgress) → IsProgress s (walked 5 s.units.info) p →
    IsFree (HasDwarfFault (location_places s)) →
    ArePlacesOf s p.groups p.kept p.named.items p.indexed.items
places_read s p are free =
    let none : p.bad ≡ None = are.bad ∙ left_none (of_units s) (option_or (bad_address_table s.units.addr)
    (option_or (bad_table ranges_kind s.ranges s.units) (bad_table locations_kind s.locations s.units)))
    (no_bad (location_places s).bad refl) in
    let read = are.gathered none in
    record {
      free = free;
      numbered = are.numbered;
      held = read.held;
      says = read.says;
      listed = read.listed;
      names = read.names;
      indexes = read.indexes;
    }
  where
    no_bad : (o : Option ℕ) → (location_places s).bad ≡ o → o ≡ None
    no_bad None e = refl
    no_bad (Some place) e = absurd (free fault.DwarfFault place e)
