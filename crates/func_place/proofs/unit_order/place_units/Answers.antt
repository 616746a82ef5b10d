use Rattle.std.proofs.Common.{Vec, Global, map, ℕ, ◌≡◌, ◌<◌, ◌++◌, List, get_or, ◌∙◌, sym, ap, subst, refl}
use Rattle.std.specs.Prelude.{All}
use Rattle.std.specs.List.{flat_map}
use Rattle.std.proofs.lemmas.List.Elements.{All-filter}
use Rattle.std.proofs.lemmas.List.Sorted.{All-permutation}
use Rattle.std.proofs.lemmas.Result.{IfOk-weaker}
use Rattle.func_place.specs.Bands.{order_of}
use Rattle.func_place.specs.Ranks.{IsInOrder, denser, begins, cluster_heads}
use Rattle.func_place.specs.UnitOrder.{cold_units, unit_clusters}
use Rattle.func_place.specs.internal.Groups.{list_at}
use Rattle.func_place.specs.internal.ClusterState.{state_of, count_of}
use Rattle.func_place.proofs.ClusterMoves.{hot_cluster}
use Rattle.func_place.proofs.unit_order.place_units.Goals as goal

pub rank_clusters-requires-clause-hot : goal.rank_clusters-requires-clause-hot
rank_clusters-requires-clause-hot c =
    let taken = c.in_ok-taken.taken.items in
    rw c.deref-2.ensures.value (λ k d lt.
    let inside : get_or taken k d < count_of (state_of c.in_ok-clusters.clusters) =
    rw (c.in_ok-clusters.ensures.len, ← c.requires.heats_len) (c.in_ok-taken.ensures.inside k d lt) in
    hot_cluster c.in_ok-clusters.ensures.sound c.in_ok-clusters.ensures.keeps (get_or taken k d) inside
    (c.in_ok-taken.ensures.hot k d lt))

pub put_clusters-requires-clause-units_in : goal.put_clusters-requires-clause-units_in
put_clusters-requires-clause-units_in c =
    let sizes = c.args.sizes.now in
    let cluster : ℕ → List ℕ = unit_clusters sizes c.args.heats.now c.args.calls.now c.deref.result.now in
    let order = c.in_ok-ranked.ensures sizes c.args.heats.now cluster c.in_ok-clusters.ensures.keeps in
    let inside : All (λ u. u < count_of (state_of c.in_ok-clusters.clusters)) c.deref-2.result.now =
    rw (c.in_ok-clusters.ensures.len, ← c.requires.heats_len, c.deref-2.ensures.value) c.in_ok-taken.ensures.inside in
    rw c.deref-3.ensures.value (All-permutation (λ u. u < count_of (state_of c.in_ok-clusters.clusters))
    (cluster_heads cluster c.deref-2.result.now) c.in_ok-ranked.ranked.items order.each
    (All-filter (λ u. begins (cluster u) u) (λ u. u < count_of (state_of c.in_ok-clusters.clusters)) c.deref-2.result.now inside))

pub returns : goal.returns
returns c =
    let sizes = c.args.sizes.now in
    let heats = c.args.heats.now in
    let taken = c.deref.result.now in
    let cluster : ℕ → List ℕ = unit_clusters sizes c.args.heats.now c.args.calls.now taken in
    let keeps = c.in_ok-clusters.ensures.keeps in
    let same : c.deref-2.result.now ≡ taken = c.deref-2.ensures.value ∙ sym c.deref.ensures.value in
    let line : c.deref-4.result.now ≡ flat_map cluster c.in_ok-ranked.ranked.items ++ cold_units heats =
    c.deref-4.ensures.value ∙ c.in_ok-put_cold.ensures.line
    ∙ ap (λ (xs : List ℕ). xs ++ cold_units heats)
    (c.in_ok-put_clusters.ensures.line sizes heats cluster keeps ∙ rw (c.new-line.ensures.items, c.deref-3.ensures.value) refl) in
    IfOk-weaker c.order_units.result _ _ (λ order is. record {
      taken = taken;
      taken_is = rw c.deref.ensures.value c.in_ok-taken.ensures.ordered;
      ranked = c.in_ok-ranked.ranked.items;
      ranked_is =
          subst (λ (xs : List ℕ). IsInOrder (denser sizes heats cluster) (cluster_heads cluster xs) c.in_ok-ranked.ranked.items)
          same
          (c.in_ok-ranked.ensures sizes heats cluster keeps);
      order_is = is
          ∙ ap (λ (xs : List ℕ). order_of sizes (list_at (map (λ (v : Vec ℕ Global). v.items) c.args.hot.now))
          (list_at (map (λ (v : Vec ℕ Global). v.items) c.args.cold.now)) xs) line;
    }) c.order_units.ensures
