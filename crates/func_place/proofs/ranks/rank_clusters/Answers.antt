use Rattle.std.proofs.Common.{ℕ, ◌≡◌, ◌<◌, length, get_or, arith, ◌∙◌, sym, ap, List, take, map}
use Rattle.std.proofs.lemmas.List.{take_all}
use Rattle.std.proofs.lemmas.Grind.{common_steps}
use Rattle.func_place.specs.internal.ClusterState.{state_of, count_of}
use Rattle.func_place.specs.declared.ranks.Rank.{Rank}
use Rattle.func_place.proofs.Ranked.{AreRanks, ranks_more, ranks_skip, ranks_sorted}
use Rattle.func_place.proofs.ranks.rank_clusters.Goals as goal
use Rattle.func_place.proofs.ranks.rank_clusters.Goals.{then-begins+in_ok-push, else-begins}

pub loop-unit-preserved : goal.loop-unit-preserved
loop-unit-preserved c = λ sizes heats cluster k.
    let at = c.loop-unit.unit-index in
    let taken = c.args.taken.now in
    let state = state_of c.args.clusters.now in
    let u_in : get_or taken at 0 < count_of state = c.requires.taken_in at 0 c.loop-unit-test.true in
    elim c.if-begins.branch [
      | then-begins+in_ok-push w ↦ rw (w.ranks-is, w.in_ok-push.ensures.items)
          (ranks_more sizes heats cluster taken c.loop-unit.ranks.items state at w.rank.result k c.loop-unit-test.true u_in
          (sym w.if-begins.ensures) w.rank.ensures.unit w.rank.ensures.heat w.rank.ensures.size
          (c.loop-unit.invariant sizes heats cluster k))
      | else-begins w ↦ rw w.ranks-is
          (ranks_skip sizes heats cluster taken c.loop-unit.ranks.items state at k c.loop-unit-test.true u_in
          (sym w.if-begins.ensures) (c.loop-unit.invariant sizes heats cluster k))
    ]

pub returns : goal.returns
returns c = λ sizes heats cluster k.
    let taken = c.args.taken.now in
    let end : c.loop-unit.unit-index ≡ length taken = omega arith in
    let ranks : AreRanks sizes heats cluster taken c.loop-unit.ranks.items =
    rw (end, take_all (length taken) taken (omega arith)) at (c.loop-unit.invariant sizes heats cluster k) in
    let items = c.deref-rank-items.result.now in
    let all : c.loop-rank.rank-index ≡ length items = omega arith in
    let units : c.loop-rank.units.items ≡ map (λ (r : Rank). r.unit) c.sort_ranks.new.ranks.items =
    c.loop-rank.invariant ∙ ap (λ (n : ℕ). map (λ (r : Rank). r.unit) (take n items)) all
    ∙ ap (λ (rs : List Rank). map (λ (r : Rank). r.unit) rs)
    (take_all (length items) items (omega arith) ∙ c.deref-rank-items.ensures.value) in
    rw units
    (ranks_sorted sizes heats cluster taken c.loop-unit.ranks.items c.sort_ranks.new.ranks.items ranks c.in_ok-sort_ranks.ensures)

pub loop-rank-preserved : goal.loop-rank-preserved
loop-rank-preserved c = grind (arith, common_steps)
