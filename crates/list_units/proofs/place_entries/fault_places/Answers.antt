use Rattle.std.proofs.Common.{◌≡◌, ◌∙◌, ◌++◌, ℕ, false, List, sym, ap, map, filter}
use Rattle.std.specs.Prelude.{flat_map, not}
use Rattle.std.specs.Option.{option_or, option_map_or}
use Rattle.answer_runs.specs.Choices.{lower, least}
use Rattle.table_core.specs.DebugUnits.{Walked, walked, first_place, other_version}
use Rattle.dw_unit.specs.CompUnits.{unit_of}
use Rattle.dw_unit.specs.Declarations.{has_bad_form}
use Rattle.dw_unit.specs.Faults.{declarations, places_with, unformed, is_address_table, bad_address_table}
use Rattle.dw_unit.proofs.Leasts.{least-append}
use Rattle.dw_lists.specs.Faults.{is_list_table}
use Rattle.list_units.proofs.PlaceFaults.{bad_is, of_tables}
use Rattle.list_units.proofs.place_entries.fault_places.Goals as goal

lists : (section : List ℕ) (ws : List Walked) → ws ≡ walked 5 section →
    least (map (λ (w : Walked). w.place) (filter (λ (w : Walked). not (option_map_or is_list_table w.bytes false)) ws))
    ≡ least (of_tables section)
lists section ws e =
    ap (λ (ws : List Walked). least (map (λ (w : Walked). w.place)
    (filter (λ (w : Walked). not (option_map_or is_list_table w.bytes false)) ws))) e

versions : (section : List ℕ) (ws : List Walked) → ws ≡ walked 5 section → first_place (λ (w : Walked). w.is_other) ws
    ≡ other_version 5 section
versions section ws e = ap (first_place (λ (w : Walked). w.is_other)) e

pub returns : goal.returns
returns c = λ s units addresses ranges locations are.
    let ws : List Walked = walked 5 s.units.info in
    let version : c.or-version.result ≡ option_or (option_or (other_version 5 s.units.info) (other_version 5 s.units.addr))
    (option_or (other_version 5 s.ranges) (other_version 5 s.locations)) =
    c.or-version.ensures ∙ (λ i. option_or
    ((c.or-of_units.ensures ∙ (λ j. option_or ((c.other_version-unit.ensures ∙ versions s.units.info c.args.units.now units) j)
    ((c.other_version-address.ensures ∙ versions s.units.addr c.args.address_tables.now addresses) j))) i)
    ((c.or-of_lists.ensures ∙ (λ j. option_or ((c.other_version-range.ensures ∙ versions s.ranges c.args.ranges.now ranges) j)
    ((c.other_version-location.ensures ∙ versions s.locations c.args.locations.now locations) j))) i)) in
    let declared : List ℕ = places_with has_bad_form (declarations s.units) in
    let formless : List ℕ = flat_map (λ (w : Walked). unformed (unit_of s.units.abbrevs w)) ws in
    let form : c.lower-form.result ≡ least (declared ++ formless) =
    c.lower-form.ensures ∙ (λ i. lower (are.form i) (are.unformed_are i)) ∙ sym (least-append declared formless) in
    let broken : c.bad_table-broken.result ≡ bad_address_table s.units.addr = c.bad_table-broken.ensures
    ∙ ap (first_place (λ (w : Walked). not (option_map_or is_address_table w.bytes false))) addresses in
    let bad = c.or-bad.ensures
    ∙ ap (option_or c.args.progress.now.bad) (c.or-later.ensures ∙ (λ i. option_or (broken i)
    ((c.or-lists.ensures ∙ (λ j. option_or (c.lower-bad_ranges.ensures j) (c.lower-bad_locations.ensures j))) i)))
    ∙ bad_is s c.args.progress.now c.bad_table-range_table.result c.bad_table-location_table.result are
    (c.bad_table-range_table.ensures ∙ lists s.ranges c.args.ranges.now ranges)
    (c.bad_table-location_table.ensures ∙ lists s.locations c.args.locations.now locations) in
    λ i. record { version = version i; form = form i; high = are.high i; bad = bad i }
