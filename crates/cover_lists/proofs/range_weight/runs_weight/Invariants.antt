use Rattle.std.proofs.Common.{◌≡◌, ◌*◌, ◌-◌, ◌^◌, length, take}
use Rattle.std.specs.Prelude.{min, sum_by}
use Rattle.answer_runs.specs.Weights.{run_weight}
use Rattle.cover_lists.specs.GroupRuns.{runs_in}
use Rattle.cover_lists.proofs.range_weight.runs_weight.Given as goal

abbrev pub invariant-loop-entry : goal.invariant-loop-entry
invariant-loop-entry l =
    l.weight ≡ min (sum_by (λ r. run_weight * length (runs_in l.lists r.group)) (take l.entry-index l.ranged)) (2 ^ 64 - 1)
