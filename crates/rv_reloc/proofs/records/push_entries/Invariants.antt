use Rattle.std.proofs.Common.{◌≡◌, ◌++◌, ◌-◌, map}
use Rattle.rv_reloc.specs.EntryRuns.{numbered}
use Rattle.rv_reloc.specs.Records.{seen}
use Rattle.rv_reloc.proofs.EntrySpans.{span}
use Rattle.rv_reloc.proofs.records.push_entries.Given as goal

abbrev pub invariant-loop-number : goal.invariant-loop-number
invariant-loop-number l =
    map seen l.records.items ++ span l.file l.run.phase l.number (l.run.end - l.number) l.section
    ≡ map seen l.initial.records.items ++ numbered l.file l.run l.section
