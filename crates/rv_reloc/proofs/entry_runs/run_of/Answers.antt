use Rattle.std.proofs.Common.{ap, length, arith}
use Rattle.std.proofs.lemmas.Option.{slice_get_past}
use Rattle.rv_reloc.proofs.Entries.{entries_of-missing}
use Rattle.rv_reloc.proofs.entry_runs.run_of.Goals as goal

pub returns-in_err-section-clause-none : goal.returns-in_err-section-clause-none
returns-in_err-section-clause-none c =
    rw c.from_residual.ensures (let above = c.in_err-section.ensures.lookup.3 in
    entries_of-missing c.args.elf.now c.args.table.now c.if-table-ne-SHT_RELA.false
    (slice_get_past c.args.elf.now.sections.items c.args.table.now.info
    (let len = ap length c.deref.ensures.value in omega arith)))
