use Rattle.std.proofs.Common.{ℕ, ◌<◌, ◌≤◌}
use Rattle.std.specs.Prelude.{slice_index}
use Rattle.rv_code.specs.layout.WorstSizes.{near_limit}
use Rattle.func_place.proofs.faults.first_long.Given as goal

abbrev pub invariant-loop-unit : goal.invariant-loop-unit
invariant-loop-unit l = (v : ℕ) → v < l.unit → slice_index l.sizes v ≤ near_limit
