use Rattle.std.proofs.Common.{ℕ, ◌≡◌, List, take, map}
use Rattle.func_place.specs.internal.ClusterState.{state_of, Keeps}
use Rattle.func_place.proofs.Ranked.{AreRanks}
use Rattle.func_place.proofs.ranks.rank_clusters.Given as goal

abbrev pub invariant-loop-unit : goal.invariant-loop-unit
invariant-loop-unit l = (sizes heats : List ℕ) (cluster : ℕ → List ℕ) → Keeps sizes heats cluster (state_of l.clusters) →
    AreRanks sizes heats cluster (take l.unit-index l.taken) l.ranks.items

abbrev pub invariant-loop-rank : goal.invariant-loop-rank
invariant-loop-rank l = l.units.items ≡ map (λ r. r.unit) (take l.rank-index l.rank-items)
