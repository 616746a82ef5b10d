use Rattle.std.proofs.Common.{◌≡◌, ◌∙◌, ◌++◌, ℕ, false, List, sym, ap, map, filter}
use Rattle.std.specs.Prelude.{flat_map, not}
use Rattle.std.specs.Option.{option_or, option_map_or}
use Rattle.answer_runs.specs.Choices.{lower, least}
use Rattle.table_core.specs.DebugUnits.{Walked, walked, first_place, other_version}
use Rattle.dw_unit.specs.CompUnits.{unit_of}
use Rattle.dw_unit.specs.Declarations.{has_bad_form}
use Rattle.dw_unit.specs.Faults.{declarations, places_with, unformed, is_address_table, bad_address_table}
use Rattle.dw_unit.proofs.Leasts.{least-append}
use Rattle.dw_lists.specs.Faults.{is_list_table}
use Rattle.list_units.proofs.RangeFaults.{bad_is, of_tables}
use Rattle.list_units.proofs.range_entries.fault_places.Goals as goal

pub returns : goal.returns
returns c = λ s units addresses tables are.
    let ws : List Walked = walked 5 s.units.info in
    let unit : c.other_version-unit.result ≡ other_version 5 s.units.info =
    c.other_version-unit.ensures ∙ ap (first_place (λ (w : Walked). w.is_other)) units in
    let address : c.other_version-address.result ≡ other_version 5 s.units.addr =
    c.other_version-address.ensures ∙ ap (first_place (λ (w : Walked). w.is_other)) addresses in
    let list : c.other_version-list.result ≡ other_version 5 s.ranges =
    c.other_version-list.ensures ∙ ap (first_place (λ (w : Walked). w.is_other)) tables in
    let both : c.or-of_units.result ≡ option_or (other_version 5 s.units.info) (other_version 5 s.units.addr) =
    c.or-of_units.ensures ∙ (λ i. option_or (unit i) (address i)) in
    let version : c.or-version.result ≡ option_or (option_or (other_version 5 s.units.info) (other_version 5 s.units.addr))
    (other_version 5 s.ranges) =
    c.or-version.ensures ∙ (λ i. option_or (both i) (list i)) in
    let declared : List ℕ = places_with has_bad_form (declarations s.units) in
    let formless : List ℕ = flat_map (λ (w : Walked). unformed (unit_of s.units.abbrevs w)) ws in
    let form : c.lower-form.result ≡ least (declared ++ formless) =
    c.lower-form.ensures ∙ (λ i. lower (are.form i) (are.unformed_are i)) ∙ sym (least-append declared formless) in
    let broken : c.bad_table-broken.result ≡ bad_address_table s.units.addr = c.bad_table-broken.ensures
    ∙ ap (first_place (λ (w : Walked). not (option_map_or is_address_table w.bytes false))) addresses in
    let of_table : c.bad_table-of_table.result ≡ least (of_tables s) = c.bad_table-of_table.ensures
    ∙ ap (λ (ws : List Walked). least (map (λ (w : Walked). w.place)
    (filter (λ (w : Walked). not (option_map_or is_list_table w.bytes false)) ws)))
    tables in
    let bad = c.or-bad.ensures
    ∙ ap (option_or c.args.progress.now.bad) (c.or-later.ensures ∙ (λ i. option_or (broken i) (c.lower-lists.ensures i)))
    ∙ bad_is s c.args.progress.now c.bad_table-of_table.result are of_table in
    λ i. record { version = version i; form = form i; high = are.high i; bad = bad i }
