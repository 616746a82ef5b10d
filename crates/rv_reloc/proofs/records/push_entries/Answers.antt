use Rattle.std.proofs.Common.{◌∙◌, sym, ap, List, ◌++◌, ◌-◌, map, append-nil, arith}
use Rattle.elf_code.specs.Relocations.{Relocation}
use Rattle.rv_reloc.specs.Records.{seen}
use Rattle.rv_reloc.proofs.Entries.{read_one}
use Rattle.rv_reloc.proofs.EntrySpans.{span-next, span-none}
use Rattle.rv_reloc.proofs.records.push_entries.Goals as goal

pub loop-number-preserved : goal.loop-number-preserved
loop-number-preserved c =
    read_one _ _ _ _ _ c.in_ok-push.ensures.items c.record_at.ensures
    ∙ ap (λ (left : List Relocation). map seen c.loop-number.records.items ++ left)
    (sym (span-next c.args.file.now c.args.run.now.phase c.loop-number.number c.args.run.now.end c.args.section.now (omega arith)))
    ∙ c.loop-number.invariant

pub returns : goal.returns
returns c =
    let none = span-none c.args.file.now c.args.run.now.phase c.loop-number.number
    (c.args.run.now.end - c.loop-number.number) c.args.section.now (omega arith) in
    sym (append-nil _) ∙ ap (λ (left : List Relocation). map seen c.loop-number.records.items ++ left) (sym none)
    ∙ c.loop-number.invariant
