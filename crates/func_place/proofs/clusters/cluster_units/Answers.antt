use Rattle.std.proofs.Common.{ℕ, ◌∙◌, ap, sym, subst, get_or, List, Option, None}
use Rattle.std.specs.Prelude.{IfOk}
use Rattle.func_place.specs.Calls.{heaviest_caller}
use Rattle.func_place.specs.Clusters.{clusters_of}
use Rattle.func_place.specs.internal.ClusterState.{state_of, Keeps}
use Rattle.func_place.proofs.OnlyHeaviest.{caller_below, same_callers}
use Rattle.func_place.proofs.clusters.cluster_units.Goals as goal

pub fold_units-requires-clause-callers_in : goal.fold_units-requires-clause-callers_in
fold_units-requires-clause-callers_in c = λ u v e. rw (← c.requires.heats_len) (caller_below c.args.heats.now c.args.calls.now u v
    (sym (ap (λ (l : List (Option ℕ)). get_or l u None) c.deref.ensures.value ∙ c.in_ok-callers.ensures.heaviest u) ∙ e))

pub returns-clause-keeps : goal.returns-clause-keeps
returns-clause-keeps c =
    let same = same_callers (λ u. get_or c.deref.result.now u None) (heaviest_caller c.args.heats.now c.args.calls.now)
    (λ u. ap (λ (l : List (Option ℕ)). get_or l u None) c.deref.ensures.value ∙ c.in_ok-callers.ensures.heaviest u) in
    subst (λ (f : ℕ → Option ℕ). IfOk c.fold_units.result (λ d. Keeps c.args.sizes.now c.args.heats.now
    (clusters_of c.args.sizes.now f c.args.taken.now) (state_of d))) same c.fold_units.ensures.keeps
