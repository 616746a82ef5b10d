use Rattle.std.proofs.Common.{◌≡◌, sym, subst}
use Rattle.rb_bytes.specs.FirstFault.{IsFree}
use Rattle.dw_unit.specs.CompUnits.{Sections}
use Rattle.dw_unit.specs.Faults.{HasDwarfFault, unit_fault_places}
use Rattle.dw_unit.specs.ListedUnits.{sections}
use Rattle.dw_unit.specs.Tables.{sections_of}
use Rattle.dw_unit.proofs.changes.abbrev_weight.Goals as goal

pub weigh_tables-requires : goal.weigh_tables-requires
weigh_tables-requires c =
    let same : sections_of c.args.elf.now ≡ sections c.contents_of.result.now c.contents_of-2.result.now c.contents_of-3.result.now =
    λ i. record { info = sym c.contents_of.ensures i; abbrevs = sym c.contents_of-2.ensures i; addr = sym c.contents_of-3.ensures i } in
    record { sound = subst (λ (s : Sections). IsFree (HasDwarfFault (unit_fault_places s))) same c.requires.sound }
