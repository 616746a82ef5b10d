use Rattle.std.proofs.Common.{◌≡◌, ℕ, List, sym, subst}
use Rattle.std.proofs.lemmas.Result.{err_from_is_err_and}
use Rattle.rb_bytes.specs.FirstFault.{IsFree, IsRefusalBy}
use Rattle.dw_unit.specs.Faults.{HasDwarfFault}
use Rattle.dw_lists.specs.Faults.{ListSections, list_sections_held, range_places}
use Rattle.dw_lists.specs.Tables.{list_sections}
use Rattle.list_units.specs.RangeReading.{AreRangesOf}
use Rattle.range_loc_rewrite.proofs.FreeRanges.{ranges_free}
use Rattle.range_loc_rewrite.proofs.range_lists.RangesAddrTable.read.Goals as goal

pub returns-in_err-entries-clause-reads : goal.returns-in_err-entries-clause-reads
returns-in_err-entries-clause-reads c =
    let p = err_from_is_err_and c.from_residual.result c.from_residual.ensures.1 in
    let locations : List ℕ = (list_sections c.args.elf.now).locations in
    let same : list_sections_held c.contents_of-info.result.now c.contents_of-abbrevs.result.now c.contents_of-addr.result.now
    c.contents_of-ranges.result.now locations ≡ list_sections c.args.elf.now =
    λ i. list_sections_held (c.contents_of-info.ensures i) (c.contents_of-abbrevs.ensures i) (c.contents_of-addr.ensures i)
    (c.contents_of-ranges.ensures i) locations in
    rw (p.1, p.2) (subst (λ (x : ListSections). IsRefusalBy (HasDwarfFault (range_places x)) c.in_err-entries.field-0.0) same
    (c.in_err-entries.ensures.fault locations))

pub keep-requires : goal.keep-requires
keep-requires c =
    let e = c.in_ok-entries.entries in
    let locations : List ℕ = (list_sections c.args.elf.now).locations in
    let same : list_sections_held c.contents_of-info.result.now c.contents_of-abbrevs.result.now c.contents_of-addr.result.now
    c.contents_of-ranges.result.now locations ≡ list_sections c.args.elf.now =
    λ i. list_sections_held (c.contents_of-info.ensures i) (c.contents_of-abbrevs.ensures i) (c.contents_of-addr.ensures i)
    (c.contents_of-ranges.ensures i) locations in
    subst (λ (x : ListSections). AreRangesOf x e.groups e.ranged.items e.indexed.items) same (c.in_ok-entries.ensures.read locations)

pub returns-clause-reads : goal.returns-clause-reads
returns-clause-reads c =
    let e = c.in_ok-entries.entries in
    let locations : List ℕ = (list_sections c.args.elf.now).locations in
    let same : list_sections_held c.contents_of-info.result.now c.contents_of-abbrevs.result.now c.contents_of-addr.result.now
    c.contents_of-ranges.result.now locations ≡ list_sections c.args.elf.now =
    λ i. list_sections_held (c.contents_of-info.ensures i) (c.contents_of-abbrevs.ensures i) (c.contents_of-addr.ensures i)
    (c.contents_of-ranges.ensures i) locations in
    let free : IsFree (HasDwarfFault (range_places (list_sections c.args.elf.now))) =
    (subst (λ (x : ListSections). AreRangesOf x e.groups e.ranged.items e.indexed.items) same (c.in_ok-entries.ensures.read locations)).free
    in
    ranges_free c.args.elf.now c.in_ok-table.table c.in_ok-table.ensures
    (subst (λ (x : ListSections). IsFree (HasDwarfFault (range_places x))) (sym c.in_ok-table.ensures) free)
