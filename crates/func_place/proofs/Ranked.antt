-- The ranks of clusters, by their first units.
use Rattle.std.proofs.Common.{ℕ, ◌≡◌, ◌<◌, ◌+◌, true, false, List, [], ◌∷◌, ◌++◌, length, take, get_or, map, arith, refl, ◌∙◌}
use Rattle.std.specs.Prelude.{All}
use Rattle.std.proofs.lemmas.List.{map-append, append-nil, get_or-map, length-map}
use Rattle.std.proofs.lemmas.List.Elements.{filter_more, All-push}
use Rattle.std.proofs.lemmas.List.Sorted.{IsPermutation-map, All-permutation}
use Rattle.func_place.specs.declared.ranks.Rank.{Rank}
use Rattle.func_place.specs.Clusters.{total}
use Rattle.func_place.specs.Ranks.{IsInOrder, begins, denser, denser_by, cluster_heads}
use Rattle.func_place.specs.internal.Groups.{group_of}
use Rattle.func_place.specs.internal.ClusterState.{Keeps, count_of, size_at, heat_at, ClusterState}

-- a rank belongs to the cluster of its unit
pub record IsRank (sizes heats : List ℕ) (cluster : ℕ → List ℕ) (r : Rank) : Type 0 where
  pub heat : r.heat ≡ total heats (cluster r.unit)
  pub size : r.size ≡ total sizes (cluster r.unit)

pub record AreRanks (sizes heats : List ℕ) (cluster : ℕ → List ℕ) (taken : List ℕ) (ranks : List Rank) : Type 0 where
  pub units : map (λ r. r.unit) ranks ≡ cluster_heads cluster taken
  pub each : All (IsRank sizes heats cluster) ranks

no_rank : Rank
no_rank = record { heat = 0; size = 1; unit = 0; fits = omega arith; some = omega arith; small = omega arith }

pub ranks_more : (sizes heats : List ℕ) (cluster : ℕ → List ℕ) (taken : List ℕ) (ranks : List Rank)
    (state : ClusterState) (i : ℕ) (r : Rank) → Keeps sizes heats cluster state → i < length taken →
    get_or taken i 0 < count_of state
    → begins (group_of state.grouping (get_or taken i 0)) (get_or taken i 0) ≡ true
    → r.unit ≡ get_or taken i 0 → r.heat ≡ heat_at state (get_or taken i 0) → r.size ≡ size_at state (get_or taken i 0)
    → AreRanks sizes heats cluster (take i taken) ranks → AreRanks sizes heats cluster (take (i + 1) taken) (ranks ++ r ∷ [])
ranks_more sizes heats cluster taken ranks state i r k lt u_in first unit heat size a =
    let u = get_or taken i 0 in
    let yes_it : begins (cluster u) u ≡ true = rw (← k.list u u_in) first in
    let more : cluster_heads cluster (take (i + 1) taken) ≡ cluster_heads cluster (take i taken) ++ u ∷ [] =
    filter_more (λ u. begins (cluster u) u) taken i 0 lt ∙ rw yes_it refl in
    record {
      units = map-append (λ (r : Rank). r.unit) ranks (r ∷ []) ∙ rw (a.units, unit, more) refl;
      each = All-push (IsRank sizes heats cluster) ranks r a.each (record {
        heat = rw (unit, ← k.heat u u_in) heat;
        size = rw (unit, ← k.size u u_in) size;
      });
    }

pub ranks_skip : (sizes heats : List ℕ) (cluster : ℕ → List ℕ) (taken : List ℕ) (ranks : List Rank) (state : ClusterState) (i : ℕ)
    → Keeps sizes heats cluster state → i < length taken → get_or taken i 0 < count_of state
    → begins (group_of state.grouping (get_or taken i 0)) (get_or taken i 0) ≡ false
    → AreRanks sizes heats cluster (take i taken) ranks → AreRanks sizes heats cluster (take (i + 1) taken) ranks
ranks_skip sizes heats cluster taken ranks state i k lt u_in first a =
    let u = get_or taken i 0 in
    let not_it : begins (cluster u) u ≡ false = rw (← k.list u u_in) first in
    let more : cluster_heads cluster (take (i + 1) taken) ≡ cluster_heads cluster (take i taken) =
    filter_more (λ u. begins (cluster u) u) taken i 0 lt ∙ rw not_it (append-nil _) in
    record { units = rw more a.units; each = a.each }

pub ranks_sorted : (sizes heats : List ℕ) (cluster : ℕ → List ℕ) (taken : List ℕ) (ranks sorted : List Rank)
    → AreRanks sizes heats cluster taken ranks
    → IsInOrder (λ a b. denser_by a.heat a.size a.unit b.heat b.size b.unit) ranks sorted
    → IsInOrder (denser sizes heats cluster) (cluster_heads cluster taken) (map (λ r. r.unit) sorted)
ranks_sorted sizes heats cluster taken ranks sorted a o =
    let all : All (IsRank sizes heats cluster) sorted = All-permutation (IsRank sizes heats cluster) ranks sorted o.each a.each in
    record {
      each = rw (← a.units) (IsPermutation-map (λ (r : Rank). r.unit) ranks sorted o.each);
      ordered = λ k d le lt.
          let len = length-map sorted (λ (r : Rank). r.unit) in
          let here = get_or sorted k no_rank in
          let next = get_or sorted (k + 1) no_rank in
          let e = all k no_rank (omega arith) in
          let f = all (k + 1) no_rank (omega arith) in
          rw (
            get_or-map (λ (r : Rank). r.unit) sorted k no_rank d (omega arith),
            get_or-map (λ (r : Rank). r.unit) sorted (k + 1) no_rank d (omega arith),
          )
          (rw (← e.heat, ← e.size, ← f.heat, ← f.size) (o.ordered k no_rank le (omega arith)));
    }
