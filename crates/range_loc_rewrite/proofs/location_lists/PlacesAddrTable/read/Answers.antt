use Rattle.std.proofs.Common.{sym, subst}
use Rattle.std.proofs.lemmas.Result.{err_from_is_err_and}
use Rattle.rb_bytes.specs.FirstFault.{IsFree}
use Rattle.dw_unit.specs.Faults.{HasDwarfFault}
use Rattle.dw_lists.specs.Faults.{ListSections, location_places}
use Rattle.range_loc_rewrite.proofs.FoundPlaces.{places_free}
use Rattle.range_loc_rewrite.proofs.location_lists.PlacesAddrTable.read.Goals as goal

pub returns-in_err-entries-clause-reads : goal.returns-in_err-entries-clause-reads
returns-in_err-entries-clause-reads c =
    let p = err_from_is_err_and c.from_residual.result c.from_residual.ensures.1 in
    rw (p.1, p.2) c.in_err-entries.ensures.fault

pub returns-clause-reads : goal.returns-clause-reads
returns-clause-reads c =
    places_free c.args.elf.now c.in_ok-table.table c.in_ok-table.ensures
    (subst (λ (x : ListSections). IsFree (HasDwarfFault (location_places x)))
    (sym c.in_ok-table.ensures) c.in_ok-entries.ensures.places.free)
