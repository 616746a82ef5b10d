use Rattle.std.proofs.Common.{length}
use Rattle.rv_reloc.proofs.merged_runs.+merged_runs.Given as goal

abbrev pub decreases-merged_runs : goal.decreases-merged_runs
decreases-merged_runs l = length l.runs.now
