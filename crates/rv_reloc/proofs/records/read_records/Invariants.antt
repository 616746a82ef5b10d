use Rattle.std.proofs.Common.{◌≡◌, map, take}
use Rattle.rv_reloc.specs.EntryRuns.{entries}
use Rattle.rv_reloc.specs.Records.{seen}
use Rattle.rv_reloc.proofs.records.read_records.Given as goal

abbrev pub invariant-loop-run : goal.invariant-loop-run
invariant-loop-run l = map seen l.records.items ≡ entries l.file (take l.run-index l.runs)
