use Rattle.std.proofs.Common.{◌≡◌, ◌+◌, List, length, subst, sym, take, arith}
use Rattle.std.proofs.lemmas.Grind.{common_steps}
use Rattle.std.specs.List.{flat_map}
use Rattle.elf_image.specs.declared.section.Section.{Section}
use Rattle.elf_code.specs.Relocations.{entries_of}
use Rattle.rv_reloc.specs.EntryRuns.{entries, IsWholeRun}
use Rattle.rv_reloc.proofs.EntrySpans.{runs-more, whole-more}
use Rattle.rv_reloc.proofs.entry_runs.read_runs.Goals as goal

pub loop-table-preserved : goal.loop-table-preserved
loop-table-preserved c =
    let elf = c.args.elf.now in
    let i = c.loop-table.table-index in
    let same = c.deref-table-items.ensures.value in record {
      all = subst (λ (ss : List Section). entries elf.file.now c.push_some.new.list.items
          ≡ flat_map (entries_of elf) (take (i + 1) ss)) same
          (runs-more elf c.loop-table.runs.items c.push_some.new.list.items c.deref-table-items.result.now i _ c.run_of.result
          c.loop-table-test.true c.in_ok-push_some.ensures.is c.run_of.ensures.is c.run_of.ensures.none
          (subst (λ (ss : List Section). entries elf.file.now c.loop-table.runs.items
          ≡ flat_map (entries_of elf) (take i ss)) (sym same) c.loop-table.invariant.all));
      whole = whole-more (IsWholeRun (length elf.file.now)) c.loop-table.runs.items c.push_some.new.list.items c.run_of.result
          c.in_ok-push_some.ensures.is c.run_of.ensures.whole c.loop-table.invariant.whole;
    }

pub returns-clause-all : goal.returns-clause-all
returns-clause-all c = grind (arith, common_steps)
