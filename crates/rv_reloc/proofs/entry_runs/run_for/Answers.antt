use Rattle.std.proofs.Common.{◌≡◌, true, rules}
use Rattle.rv_reloc.specs.Records.{counts}
use Rattle.rv_reloc.proofs.Entries.{entries_for-empty}
use Rattle.rv_reloc.proofs.EntrySpans.{run-entries}
use Rattle.rv_reloc.proofs.entry_runs.run_for.Goals as goal

pub returns-then-table-eq0-clause-none : goal.returns-then-table-eq0-clause-none
returns-then-table-eq0-clause-none c = entries_for-empty c.args.elf.now c.args.table.now c.args.section.now c.if-table-eq0.true

pub returns-clause-is : goal.returns-clause-is
returns-clause-is c =
    let counted : counts c.args.section.now ≡ true = search rules in
    run-entries c.args.elf.now c.args.table.now c.args.section.now counted
