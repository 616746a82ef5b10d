use Rattle.std.proofs.Common.{◌∙◌, ap, sym, subst, List, All, length}
use Rattle.rv_reloc.specs.declared.entry_run.EntryRun.{EntryRun}
use Rattle.rv_reloc.specs.EntryRuns.{entries, IsWholeRun}
use Rattle.rv_reloc.specs.Thinned.{IsThinned}
use Rattle.rv_reloc.proofs.Kept.{AreRecords-sorted}
use Rattle.rv_reloc.proofs.records.records.Goals as goal

pub read_records-requires : goal.read_records-requires
read_records-requires c =
    let Whole = IsWholeRun (length c.args.elf.now.file.now) in
    let all = subst (λ (runs : List EntryRun). All Whole runs) (sym c.deref.ensures.value) c.in_ok-runs.ensures.whole in
    subst (λ (runs : List EntryRun). All Whole runs) (sym (c.deref-2.ensures.value ∙ c.from-runs.ensures.0))
    (c.in_ok-merged_runs.ensures.whole (length c.args.elf.now.file.now) all)

pub returns : goal.returns
returns c =
    let file = c.args.elf.now.file.now in
    let thinned = subst (λ (runs : List EntryRun).
    IsThinned (entries file runs) (entries file c.in_ok-merged_runs.field-0.items)) c.deref.ensures.value
    (c.in_ok-merged_runs.ensures.thinned file) in
    let same = c.in_ok-records.ensures ∙ ap (entries file) (c.deref-2.ensures.value ∙ c.from-runs.ensures.0) in
    AreRecords-sorted c.args.elf.now (entries file c.in_ok-runs.runs.items) (entries file c.in_ok-merged_runs.field-0.items)
    c.in_ok-records.records.items c.sort_records.new.records.items c.in_ok-runs.ensures.all thinned same
    c.in_ok-sort_records.ensures.permutation c.in_ok-sort_records.ensures.ordered
