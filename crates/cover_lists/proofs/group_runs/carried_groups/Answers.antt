use Rattle.std.proofs.Common.{◌-◌, ◌^◌, ℕ, List, ap, subst, sym}
use Rattle.std.proofs.lemmas.Result.{IfOk-weaker}
use Rattle.answer_runs.specs.declared.run.Run.{Run}
use Rattle.answer_runs.specs.AnswerRuns.{IsWithin}
use Rattle.answer_runs.proofs.Grown.{within-up}
use Rattle.cover_lists.specs.GroupRuns.{IsGroupRuns, held_by, if_held, runs_end, runs_in}
use Rattle.cover_lists.proofs.CarriedLists.{carried_runs}
use Rattle.cover_lists.proofs.StretchRuns.{runs_end_le}
use Rattle.cover_lists.proofs.group_runs.carried_groups.Goals as goal

pub returns-clause-each : goal.returns-clause-each
returns-clause-each c = IfOk-weaker c.group_runs.result _ _ (λ lists each g below.
    let ss : List (Run ℕ) = c.in_ok-stretches.stretches.items in
    let runs = runs_in lists.items g in
    let is : IsGroupRuns c.args.tree.now g ss runs =
    subst (λ (l : List (Run ℕ)). IsGroupRuns c.args.tree.now g l runs) c.deref.ensures.value (each g below) in
    carried_runs (held_by c.args.tree.now g) c.args.bounds.now (λ a b same. ap if_held (c.requires.apart a b same g))
    c.args.map.now ss (runs_end 0 ss) runs c.in_ok-stretches.ensures.runs is.are.within is.are.longest is.answers)
    c.group_runs.ensures.each

pub returns-clause-within : goal.returns-clause-within
returns-clause-within c = IfOk-weaker c.group_runs.result _ _ (λ lists each g below.
    let ss : List (Run ℕ) = c.in_ok-stretches.stretches.items in
    let runs = runs_in lists.items g in
    let is : IsGroupRuns c.args.tree.now g ss runs =
    subst (λ (l : List (Run ℕ)). IsGroupRuns c.args.tree.now g l runs) c.deref.ensures.value (each g below) in
    within-up 0 runs (runs_end 0 ss) (2 ^ 64 - 1) is.are.within (runs_end_le 0 ss (2 ^ 64 - 1) c.in_ok-stretches.ensures.within))
    c.group_runs.ensures.each

pub group_runs-requires : goal.group_runs-requires
group_runs-requires c =
    subst (λ (l : List (Run ℕ)). IsWithin 0 l (2 ^ 64 - 1)) (sym c.deref.ensures.value) c.in_ok-stretches.ensures.within
