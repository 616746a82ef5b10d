use Rattle.std.proofs.Common.{◌≡◌, ◌-◌, ◌^◌, take}
use Rattle.std.specs.Prelude.{min}
use Rattle.cover_lists.specs.ListWeights.{total_weight}
use Rattle.range_loc_rewrite.proofs.place_runs.runs_weight.Given as goal

abbrev pub invariant-loop-runs : goal.invariant-loop-runs
invariant-loop-runs l = l.weight ≡ min (total_weight (take l.runs-index l.lists)) (2 ^ 64 - 1)
