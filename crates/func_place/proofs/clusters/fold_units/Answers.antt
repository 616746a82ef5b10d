use Rattle.std.proofs.Common.{ℕ, ◌≡◌, List, length, take, arith, ◌∙◌, ap, subst, get_or, None}
use Rattle.std.proofs.lemmas.List.{take_all}
use Rattle.func_place.specs.Clusters.{clusters_of}
use Rattle.func_place.specs.internal.ClusterState.{state_of, Keeps}
use Rattle.func_place.proofs.ClusterMoves.{stays_more, appends_more}
use Rattle.func_place.proofs.clusters.fold_units.Goals as goal
use Rattle.func_place.proofs.clusters.fold_units.Goals.{in-Some+in_ok-append, in_default}

pub loop-unit-preserved : goal.loop-unit-preserved
loop-unit-preserved c = elim c.match-callers-unit.branch [
  | in-Some+in_ok-append w ↦ let e = w.in_ok-append.ensures in
      rw w.clusters-is (
        e.len ∙ c.loop-unit.invariant.0,
        e.sound,
        appends_more c.args.sizes.now c.args.heats.now
            (λ u. get_or c.args.callers.now u None) c.args.taken.now c.loop-unit.unit-index w.in-Some.caller
            (state_of w.append.new.self) (omega arith) w.in-Some.is (e.keeps _ _ _ c.loop-unit.invariant.2),
      )
  | in_default w ↦ rw w.clusters-is (
    c.loop-unit.invariant.0,
    c.loop-unit.invariant.1,
    stays_more c.args.sizes.now c.args.heats.now (λ u. get_or c.args.callers.now u None) c.args.taken.now c.loop-unit.unit-index
        (state_of c.loop-unit.clusters) (omega arith) w.in_default.is c.loop-unit.invariant.2,
  )
]

pub returns-clause-keeps : goal.returns-clause-keeps
returns-clause-keeps c =
    let taken = c.args.taken.now in
    let end : c.loop-unit.unit-index ≡ length taken = omega arith in
    subst (λ (us : List ℕ). Keeps c.args.sizes.now c.args.heats.now
    (clusters_of c.args.sizes.now (λ u. get_or c.args.callers.now u None) us) (state_of c.loop-unit.clusters))
    (ap (λ (n : ℕ). take n taken) end ∙ take_all (length taken) taken (omega arith)) c.loop-unit.invariant.2
