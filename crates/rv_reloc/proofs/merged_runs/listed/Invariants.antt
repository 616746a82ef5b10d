use Rattle.std.proofs.Common.{◌≡◌, take}
use Rattle.rv_reloc.proofs.merged_runs.listed.Given as goal

abbrev pub invariant-loop-run : goal.invariant-loop-run
invariant-loop-run l = l.listed.items ≡ take l.run-index l.runs
