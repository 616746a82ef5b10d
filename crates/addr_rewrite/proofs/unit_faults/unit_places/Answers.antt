use Rattle.std.proofs.Common.{◌≡◌, ◌∙◌, List, ap, subst, sym}
use Rattle.table_core.specs.DebugUnits.{Walked, walked}
use Rattle.dw_unit.specs.CompUnits.{Sections}
use Rattle.dw_unit.specs.ListedUnits.{sections}
use Rattle.dw_unit.specs.ReaderSections.{ReaderSections}
use Rattle.dw_unit.specs.UnitFaults.{AreNoted}
use Rattle.addr_rewrite.proofs.unit_faults.unit_places.Goals as goal

pub returns : goal.returns
returns c =
    let s : Sections = sections c.args.info.now c.args.abbrevs.now c.args.addr.now in
    let units : c.units.result.now ≡ walked 5 s.info = c.units.ensures ∙ ap (λ (r : ReaderSections). r.units) c.in_ok-reader.ensures in
    let noted : AreNoted s.abbrevs s.addr (walked 5 s.info) c.in_ok-faults.faults =
    subst (λ (r : ReaderSections). AreNoted r.abbrevs r.addr r.units c.in_ok-faults.faults) c.in_ok-reader.ensures c.in_ok-faults.ensures in
    c.fault_places.ensures s units (c.deref.ensures.value ∙ c.in_ok-address_tables.ensures)
    (subst (λ (us : List Walked). AreNoted s.abbrevs s.addr us c.in_ok-faults.faults) (sym units) noted)
