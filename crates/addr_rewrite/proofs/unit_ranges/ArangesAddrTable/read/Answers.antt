use Rattle.std.proofs.Common.{◌∙◌, ℕ, List, Some, ap, sym}
use Rattle.std.proofs.lemmas.Result.{err_from_is_err_and}
use Rattle.rb_bytes.specs.FirstFault.{IsFree}
use Rattle.elf_image.specs.declared.elf.Elf.{Elf}
use Rattle.dw_unit.specs.Faults.{HasDwarfFault, unit_fault_places}
use Rattle.dw_unit.specs.ListedUnits.{sections}
use Rattle.dw_unit.specs.Tables.{sections_of}
use Rattle.addr_rewrite.specs.Aranges.{unit_at}
use Rattle.addr_rewrite.specs.Tables.{aranges_places, unit}
use Rattle.addr_rewrite.proofs.FreePlaces.{answers_free}
use Rattle.addr_rewrite.proofs.unit_ranges.ArangesAddrTable.read.Goals as goal

pub returns-in_err-table-clause-reads : goal.returns-in_err-table-clause-reads
returns-in_err-table-clause-reads c =
    let elf : Elf = c.args.elf.now in
    let p = err_from_is_err_and c.from_residual-in_err-table.result c.from_residual-in_err-table.ensures.1 in
    rw (p.1, p.2) (c.in_err-table.ensures.fault (unit_fault_places (sections_of elf)) (c.in_ok-units.ensures
    ∙ (λ i. unit_fault_places (sections (c.contents_of-info.ensures i) (c.contents_of-abbrevs.ensures i) (c.contents_of-addr.ensures i)))))

pub returns-clause-reads : goal.returns-clause-reads
returns-clause-reads c =
    let elf : Elf = c.args.elf.now in
    let free : IsFree (HasDwarfFault (aranges_places elf)) =
    c.in_ok-table.ensures.free (unit_fault_places (sections_of elf)) (c.in_ok-units.ensures
    ∙ (λ i. unit_fault_places (sections (c.contents_of-info.ensures i) (c.contents_of-abbrevs.ensures i) (c.contents_of-addr.ensures i))))
    in (
      answers_free (aranges_places elf) (unit elf) free ∙ sym (ap (λ (s : List ℕ). Some (unit_at s)) c.in_ok-table.ensures.comes),
      free,
    )
