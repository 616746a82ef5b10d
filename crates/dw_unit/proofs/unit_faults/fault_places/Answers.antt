use Rattle.std.proofs.Common.{◌≡◌, ◌∙◌, ℕ, false, List, Option, sym, ap, subst}
use Rattle.std.specs.Prelude.{flat_map, not}
use Rattle.std.specs.Option.{option_or, option_map_or}
use Rattle.answer_runs.specs.Choices.{lower}
use Rattle.table_core.specs.DebugUnits.{Walked, walked, first_place, other_version}
use Rattle.dw_unit.specs.CompUnits.{unit_of}
use Rattle.dw_unit.specs.Declarations.{has_bad_form}
use Rattle.dw_unit.specs.Faults.{declarations, places_with, unformed, is_bad, is_address_table, unit_fault_places}
use Rattle.dw_unit.proofs.Leasts.{least-append}
use Rattle.dw_unit.specs.UnitFaults.{AreNoted}
use Rattle.dw_unit.proofs.unit_faults.fault_places.Goals as goal

pub returns : goal.returns
returns c = λ s units tables noted.
    let p = unit_fault_places s in
    let ws : List Walked = walked 5 s.info in
    let are : AreNoted s.abbrevs s.addr ws c.args.faults = subst (λ (us : List Walked). AreNoted s.abbrevs s.addr us c.args.faults) units
    noted in
    let declared : List ℕ = places_with has_bad_form (declarations s) in
    let formless : List ℕ = flat_map (λ (w : Walked). unformed (unit_of s.abbrevs w)) ws in
    let version : c.or-version.result ≡ p.version = c.or-version.ensures
    ∙ ap (λ (o : Option ℕ). option_or o c.other_version-table.result) (c.other_version-unit.ensures
    ∙ ap (first_place (λ (w : Walked). w.is_other)) units)
    ∙ ap (option_or (other_version 5 s.info)) (c.other_version-table.ensures ∙ ap (first_place (λ (w : Walked). w.is_other)) tables) in
    let form : c.lower-form.result ≡ p.form = c.lower-form.ensures
    ∙ (λ i. lower (are.form i) (are.unformed_are i)) ∙ sym (least-append declared formless) in
    let bad : c.or-bad.result ≡ p.bad = c.or-bad.ensures
    ∙ ap (λ (o : Option ℕ). option_or o c.bad_table-broken.result) are.bad
    ∙ ap (option_or (first_place (is_bad s) ws)) (c.bad_table-broken.ensures
    ∙ ap (first_place (λ (w : Walked). not (option_map_or is_address_table w.bytes false))) tables) in
    λ i. record { version = version i; form = form i; high = are.high i; bad = bad i }
