use Rattle.std.proofs.Common.{◌∙◌, sym, ap, List, ◌++◌, take, arith}
use Rattle.std.proofs.lemmas.Grind.{common_steps}
use Rattle.elf_code.specs.Relocations.{Relocation}
use Rattle.rv_reloc.specs.declared.entry_run.EntryRun.{EntryRun}
use Rattle.rv_reloc.specs.EntryRuns.{run_entries, entries}
use Rattle.rv_reloc.proofs.EntrySpans.{entries-next}
use Rattle.rv_reloc.proofs.records.read_records.Goals as goal

pub loop-run-preserved : goal.loop-run-preserved
loop-run-preserved c =
    let file = c.args.file.now in
    let run = c.run-item.result in
    c.in_ok-push_run.ensures
    ∙ ap (λ (rs : List Relocation). rs ++ run_entries file run) c.loop-run.invariant
    ∙ ap (λ (r : EntryRun). entries file (take c.loop-run.run-index c.args.runs.now) ++ run_entries file r)
    c.run-item.is
    ∙ sym (entries-next file c.args.runs.now c.loop-run.run-index run c.loop-run-test.true)

pub returns : goal.returns
returns c = grind (arith, common_steps)
