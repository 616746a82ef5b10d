use Rattle.std.proofs.Common.{◌≡◌, ℕ, List, [], length, refl, rules, sym, subst}
use Rattle.std.proofs.lemmas.List.{nil_from_length}
use Rattle.std.proofs.lemmas.Result.{IfOk-weaker}
use Rattle.std.specs.List.Sorted.{IsPermutation}
use Rattle.answer_runs.specs.declared.run.Run.{Run}
use Rattle.answer_runs.proofs.SilentTables.{no_runs}
use Rattle.cover_lists.specs.GroupRuns.{runs_end}
use Rattle.cover_lists.specs.KeptLists.{list_bounds}
use Rattle.cover_lists.specs.ListRuns.{IsListRuns, list_answer, said_in}
use Rattle.cover_lists.proofs.CarriedLists.{carried_runs, same_answer}
use Rattle.cover_lists.proofs.carried_lists.carried_lists.Goals as goal

pub returns-clause-each : goal.returns-clause-each
returns-clause-each c = IfOk-weaker c.list_runs.result _ _ (λ runs each n.
    let ss : List (Run ℕ) = c.in_ok-stretches.stretches.items in
    let is : IsListRuns c.args.lists.now n ss (runs_end 0 ss) (said_in runs.items n) =
    subst (λ (l : List (Run ℕ)). IsListRuns c.args.lists.now n l (runs_end 0 l) (said_in runs.items n)) c.deref-2.ensures.value
    (each n) in
    carried_runs (list_answer c.args.lists.now n) c.deref.result.now
    (same_answer c.args.lists.now n c.deref.result.now
    (subst (IsPermutation (list_bounds c.args.lists.now)) (sym c.deref.ensures.value) c.in_ok-bounds.ensures.all))
    c.args.map.now ss (runs_end 0 ss) (said_in runs.items n) c.in_ok-stretches.ensures.runs is.within is.longest is.answers)
    c.list_runs.ensures.each

pub returns-then-is_empty-clause-each : goal.returns-then-is_empty-clause-each
returns-then-is_empty-clause-each c = λ n.
    let empty : length c.args.lists.now ≡ 0 = search rules in
    let none : c.args.lists.now ≡ [] = nil_from_length c.args.lists.now empty in
    rw (none, c.new.ensures.items) (no_runs (list_answer [] n) c.args.map.now (λ a. refl))
