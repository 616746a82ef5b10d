use Rattle.std.proofs.Common.{◌≡◌, ◌∙◌, ap, sym, subst, refl}
use Rattle.std.specs.List.Sorted.{IsNonDecreasingBy}
use Rattle.std.proofs.lemmas.Result.{err_from_is_err_and}
use Rattle.rb_bytes.specs.FirstFault.{IsFree, IsAnswered}
use Rattle.table_core.specs.DebugUnits.{Walked, walked}
use Rattle.dw_unit.specs.Faults.{FaultPlaces, HasDwarfFault}
use Rattle.dw_unit.specs.ReaderSections.{ReaderSections}
use Rattle.dw_lists.specs.Faults.{ListSections, list_sections_held}
use Rattle.list_units.specs.RangeReading.{IsProgress}
use Rattle.list_units.proofs.RangeFaults.{ranges_read}
use Rattle.dw_lists.proofs.TablesBelow.{places_rise}
use Rattle.list_units.proofs.range_entries.read_ranges.Goals as goal

pub read_all-requires-clause-rising : goal.read_all-requires-clause-rising
read_all-requires-clause-rising c =
    subst (IsNonDecreasingBy (λ (w : Walked). w.place)) (sym (c.deref.ensures.value ∙ c.in_ok-tables.ensures))
    (places_rise 5 c.args.ranges.now)

pub returns-in_err-refused-clause-fault : goal.returns-in_err-refused-clause-fault
returns-in_err-refused-clause-fault c =
    let p = err_from_is_err_and c.from_residual-in_err-refused.result c.from_residual-in_err-refused.ensures.1 in
    let units : c.units.result.now ≡ walked 5 c.args.info.now = c.units.ensures
    ∙ ap (λ (r : ReaderSections). r.units) c.in_ok-reader.ensures in
    rw (p.1, p.2) (λ locations.
    let s : ListSections = list_sections_held c.args.info.now c.args.abbrevs.now c.args.addr.now c.args.ranges.now locations in
    let read : IsProgress s (walked 5 s.units.info) c.in_ok-progress.progress = c.in_ok-progress.ensures s refl refl c.in_ok-reader.ensures
    in
    let same = c.fault_places-places.ensures s units (c.deref-2.ensures.value ∙ c.in_ok-address_tables.ensures)
    (c.deref-3.ensures.value ∙ c.in_ok-tables.ensures) read in
    subst (λ (p : FaultPlaces). IsAnswered (HasDwarfFault p) c.in_err-refused.field-0.0) same c.in_err-refused.ensures.fault)

pub returns-clause-read : goal.returns-clause-read
returns-clause-read c = λ locations.
    let units : c.units.result.now ≡ walked 5 c.args.info.now = c.units.ensures
    ∙ ap (λ (r : ReaderSections). r.units) c.in_ok-reader.ensures in
    let s : ListSections = list_sections_held c.args.info.now c.args.abbrevs.now c.args.addr.now c.args.ranges.now locations in
    let read : IsProgress s (walked 5 s.units.info) c.in_ok-progress.progress = c.in_ok-progress.ensures s refl refl c.in_ok-reader.ensures
    in
    let same = c.fault_places-places.ensures s units (c.deref-2.ensures.value ∙ c.in_ok-address_tables.ensures)
    (c.deref-3.ensures.value ∙ c.in_ok-tables.ensures) read in
    ranges_read s c.in_ok-progress.progress read (subst (λ (p : FaultPlaces). IsFree (HasDwarfFault p)) same c.in_ok-refused.ensures.free)
