use Rattle.std.proofs.Common.{◌≡◌, subst}
use Rattle.std.proofs.lemmas.Result.{err_from_is_err_and}
use Rattle.rb_bytes.specs.FirstFault.{IsRefusalBy}
use Rattle.dw_unit.specs.Faults.{HasDwarfFault}
use Rattle.dw_lists.specs.Faults.{ListSections, list_sections_held, location_places}
use Rattle.dw_lists.specs.Tables.{list_sections}
use Rattle.list_units.specs.PlaceReading.{ArePlacesOf}
use Rattle.list_units.specs.RangeReading.{AreRangesOf}
use Rattle.range_loc_rewrite.proofs.reading.read_entries.Goals as goal

pub returns-in_err-entries-clause-fault : goal.returns-in_err-entries-clause-fault
returns-in_err-entries-clause-fault c =
    let p = err_from_is_err_and c.from_residual.result c.from_residual.ensures.1 in
    let same : list_sections_held c.contents_of-info.result.now c.contents_of-abbrevs.result.now c.contents_of-addr.result.now
    c.contents_of-ranges.result.now c.contents_of-locations.result.now ≡ list_sections c.args.elf.now =
    λ i. list_sections_held (c.contents_of-info.ensures i) (c.contents_of-abbrevs.ensures i) (c.contents_of-addr.ensures i)
    (c.contents_of-ranges.ensures i) (c.contents_of-locations.ensures i) in
    rw (p.1, p.2) (subst (λ (x : ListSections). IsRefusalBy (HasDwarfFault (location_places x)) c.in_err-entries.field-0.0) same
    c.in_err-entries.ensures.fault)

pub returns-clause-ranges : goal.returns-clause-ranges
returns-clause-ranges c =
    let r = c.in_ok-entries.entries.ranges in
    let same : list_sections_held c.contents_of-info.result.now c.contents_of-abbrevs.result.now c.contents_of-addr.result.now
    c.contents_of-ranges.result.now c.contents_of-locations.result.now ≡ list_sections c.args.elf.now =
    λ i. list_sections_held (c.contents_of-info.ensures i) (c.contents_of-abbrevs.ensures i) (c.contents_of-addr.ensures i)
    (c.contents_of-ranges.ensures i) (c.contents_of-locations.ensures i) in
    subst (λ (x : ListSections). AreRangesOf x r.groups r.ranged.items r.indexed.items) same c.in_ok-entries.ensures.ranges

pub returns-clause-places : goal.returns-clause-places
returns-clause-places c =
    let r = c.in_ok-entries.entries.places in
    let same : list_sections_held c.contents_of-info.result.now c.contents_of-abbrevs.result.now c.contents_of-addr.result.now
    c.contents_of-ranges.result.now c.contents_of-locations.result.now ≡ list_sections c.args.elf.now =
    λ i. list_sections_held (c.contents_of-info.ensures i) (c.contents_of-abbrevs.ensures i) (c.contents_of-addr.ensures i)
    (c.contents_of-ranges.ensures i) (c.contents_of-locations.ensures i) in
    subst (λ (x : ListSections). ArePlacesOf x r.groups r.kept r.named.items r.indexed.items) same c.in_ok-entries.ensures.places
