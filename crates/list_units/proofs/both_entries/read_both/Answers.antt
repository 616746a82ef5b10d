use Rattle.std.proofs.Common.{◌≡◌, ◌∙◌, ap, sym, subst, refl}
use Rattle.std.specs.List.Sorted.{IsNonDecreasingBy}
use Rattle.std.proofs.lemmas.Result.{err_from_is_err_and}
use Rattle.rb_bytes.specs.FirstFault.{IsFree, IsAnswered}
use Rattle.table_core.specs.DebugUnits.{Walked, walked}
use Rattle.dw_unit.specs.Faults.{FaultPlaces, HasDwarfFault}
use Rattle.dw_unit.specs.ReaderSections.{ReaderSections}
use Rattle.dw_lists.specs.Faults.{ListSections, list_sections_held}
use Rattle.dw_lists.proofs.TablesBelow.{places_rise}
use Rattle.list_units.proofs.BothReadings.{ranges_free}
use Rattle.list_units.proofs.PlaceFaults.{places_read}
use Rattle.list_units.proofs.RangeFaults.{ranges_read}
use Rattle.list_units.proofs.both_entries.read_both.Goals as goal

pub read_all-requires-clause-ranges_rise : goal.read_all-requires-clause-ranges_rise
read_all-requires-clause-ranges_rise c =
    subst (IsNonDecreasingBy (λ (w : Walked). w.place)) (sym (c.deref.ensures.value ∙ c.in_ok-range_tables.ensures))
    (places_rise 5 c.args.ranges.now)

pub read_all-requires-clause-rising : goal.read_all-requires-clause-rising
read_all-requires-clause-rising c =
    subst (IsNonDecreasingBy (λ (w : Walked). w.place)) (sym (c.deref-2.ensures.value ∙ c.in_ok-location_tables.ensures))
    (places_rise 5 c.args.locations.now)

pub returns-in_err-refused-clause-fault : goal.returns-in_err-refused-clause-fault
returns-in_err-refused-clause-fault c =
    let p = err_from_is_err_and c.from_residual-in_err-refused.result c.from_residual-in_err-refused.ensures.1 in
    let s : ListSections = list_sections_held c.args.info.now c.args.abbrevs.now c.args.addr.now c.args.ranges.now c.args.locations.now in
    let units : c.units.result.now ≡ walked 5 c.args.info.now = c.units.ensures
    ∙ ap (λ (r : ReaderSections). r.units) c.in_ok-reader.ensures in
    let read = c.in_ok-ranged.ensures s refl refl refl refl c.in_ok-reader.ensures in
    let same = c.fault_places-places.ensures s units (c.deref-3.ensures.value ∙ c.in_ok-address_tables.ensures)
    (c.deref-4.ensures.value ∙ c.in_ok-range_tables.ensures) (c.deref-5.ensures.value ∙ c.in_ok-location_tables.ensures) read.1 in
    rw (p.1, p.2) (subst (λ (p : FaultPlaces). IsAnswered (HasDwarfFault p) c.in_err-refused.field-0.0) same c.in_err-refused.ensures.fault)

pub returns-clause-ranges : goal.returns-clause-ranges
returns-clause-ranges c =
    let s : ListSections = list_sections_held c.args.info.now c.args.abbrevs.now c.args.addr.now c.args.ranges.now c.args.locations.now in
    let units : c.units.result.now ≡ walked 5 c.args.info.now = c.units.ensures
    ∙ ap (λ (r : ReaderSections). r.units) c.in_ok-reader.ensures in
    let read = c.in_ok-ranged.ensures s refl refl refl refl c.in_ok-reader.ensures in
    let same = c.fault_places-places.ensures s units (c.deref-3.ensures.value ∙ c.in_ok-address_tables.ensures)
    (c.deref-4.ensures.value ∙ c.in_ok-range_tables.ensures) (c.deref-5.ensures.value ∙ c.in_ok-location_tables.ensures) read.1 in
    ranges_read s c.in_ok-ranged.ranged read.0
    (ranges_free s (subst (λ (p : FaultPlaces). IsFree (HasDwarfFault p)) same c.in_ok-refused.ensures.free))

pub returns-clause-places : goal.returns-clause-places
returns-clause-places c =
    let s : ListSections = list_sections_held c.args.info.now c.args.abbrevs.now c.args.addr.now c.args.ranges.now c.args.locations.now in
    let units : c.units.result.now ≡ walked 5 c.args.info.now = c.units.ensures
    ∙ ap (λ (r : ReaderSections). r.units) c.in_ok-reader.ensures in
    let read = c.in_ok-ranged.ensures s refl refl refl refl c.in_ok-reader.ensures in
    let same = c.fault_places-places.ensures s units (c.deref-3.ensures.value ∙ c.in_ok-address_tables.ensures)
    (c.deref-4.ensures.value ∙ c.in_ok-range_tables.ensures) (c.deref-5.ensures.value ∙ c.in_ok-location_tables.ensures) read.1 in
    places_read s c.in_ok-ranged.placed read.1 (subst (λ (p : FaultPlaces). IsFree (HasDwarfFault p)) same c.in_ok-refused.ensures.free)
