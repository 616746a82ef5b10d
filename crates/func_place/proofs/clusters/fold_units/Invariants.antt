use Rattle.std.proofs.Common.{◌≡◌, length, take, get_or, None}
use Rattle.func_place.specs.Clusters.{clusters_of}
use Rattle.func_place.specs.internal.ClusterState.{state_of, count_of, Keeps, IsValidState}
use Rattle.func_place.proofs.clusters.fold_units.Given as goal

abbrev pub invariant-loop-unit : goal.invariant-loop-unit
invariant-loop-unit l = (count_of (state_of l.clusters) ≡ length l.sizes)
    × IsValidState (state_of l.clusters)
    × Keeps l.sizes l.heats (clusters_of l.sizes (λ u. get_or l.callers u None) (take l.unit-index l.taken)) (state_of l.clusters)
