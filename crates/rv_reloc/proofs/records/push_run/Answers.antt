use Rattle.std.proofs.Common.{◌∙◌, sym, ap, List, ◌++◌, map, append_assoc}
use Rattle.std.proofs.lemmas.Result.{on_ok_weaker}
use Rattle.elf_code.specs.Relocations.{Relocation}
use Rattle.rv_reloc.specs.AppliesTo.{sections_of}
use Rattle.rv_reloc.specs.EntryRuns.{numbered}
use Rattle.rv_reloc.specs.Records.{seen}
use Rattle.rv_reloc.proofs.EntrySpans.{one-section, two-sections}
use Rattle.rv_reloc.proofs.records.push_run.Goals as goal

pub returns-in-One : goal.returns-in-One
returns-in-One c =
    let one = one-section c.args.file.now c.args.run.now c.in-One.section.now (ap sections_of c.in-One.is) in
    on_ok_weaker c.push_entries.result
    (λ is. is ∙ ap (λ (es : List Relocation). map seen c.args.records.now.items ++ es) (sym one)) c.push_entries.ensures

pub returns-in_ok-push_entries-in-Several : goal.returns-in_ok-push_entries-in-Several
returns-in_ok-push_entries-in-Several c =
    let file = c.args.file.now in
    let run = c.args.run.now in
    let was = map seen c.args.records.now.items in
    let last = numbered file run c.in-Several.last_start.now in
    let first = numbered file run c.in-Several.first_end.now in
    let two = two-sections file run c.in-Several.last_start.now c.in-Several.first_end.now (ap sections_of c.in-Several.is) in
    on_ok_weaker c.push_entries-in-Several-2.result
    (λ is. is ∙ ap (λ (es : List Relocation). es ++ first) c.in_ok-push_entries-in-Several.ensures
    ∙ append_assoc was last first ∙ ap (λ (es : List Relocation). was ++ es) (sym two))
    c.push_entries-in-Several-2.ensures
