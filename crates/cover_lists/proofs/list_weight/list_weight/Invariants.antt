use Rattle.std.proofs.Common.{◌≡◌, ◌-◌, ◌^◌, take}
use Rattle.std.specs.Prelude.{min}
use Rattle.cover_lists.specs.ListWeights.{list_weight}
use Rattle.cover_lists.proofs.list_weight.list_weight.Given as goal

abbrev pub invariant-loop-run : goal.invariant-loop-run
invariant-loop-run l = l.weight ≡ min (list_weight (take l.run-index l.runs)) (2 ^ 64 - 1)
