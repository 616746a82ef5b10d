use Rattle.std.proofs.Common.{◌≡◌, ◌-◌, ◌^◌, take}
use Rattle.std.specs.Prelude.{min}
use Rattle.cover_lists.specs.ListWeights.{copies_weight}
use Rattle.cover_lists.proofs.list_weight.copies_weight.Given as goal

abbrev pub invariant-loop-copy : goal.invariant-loop-copy
invariant-loop-copy l = l.weight ≡ min (copies_weight (take l.copy-index l.copies)) (2 ^ 64 - 1)
