use Rattle.std.proofs.Common.{ℕ, ◌≡◌, ◌<◌, ◌++◌, List, take}
use Rattle.std.specs.Prelude.{All}
use Rattle.std.specs.List.{flat_map}
use Rattle.func_place.specs.internal.ClusterState.{state_of, count_of, Keeps}
use Rattle.func_place.proofs.clusters.Clusters.put_clusters.Given as goal

abbrev pub invariant-loop-unit : goal.invariant-loop-unit
invariant-loop-unit l =
    ((sizes heats : List ℕ) (cluster : ℕ → List ℕ) → Keeps sizes heats cluster (state_of l.self) →
    l.line.items ≡ l.initial.line.items ++ flat_map cluster (take l.unit-index l.units))
    × (All (λ u. u < count_of (state_of l.self)) l.initial.line.items → All (λ u. u < count_of (state_of l.self)) l.line.items)
