use Rattle.std.proofs.Common.{◌≡◌, ◌∙◌, ◌-◌, ◌^◌, ℕ, List, sym, subst, arith, take}
use Rattle.std.specs.Prelude.{slice_index_or}
use Rattle.std.proofs.lemmas.List.{take_more}
use Rattle.answer_runs.specs.declared.run.Run.{Run}
use Rattle.cover_lists.specs.GroupRuns as spec
use Rattle.cover_lists.specs.GroupRuns.{IsGroupRuns, runs_in}
use Rattle.cover_lists.proofs.GroupRunFacts.{held_before, group_more}
use Rattle.cover_lists.proofs.StretchRuns.{within_at, taken_within}
use Rattle.cover_lists.proofs.group_runs.group_runs.Goals as goal

abbrev none : Run ℕ
none = record { start = 0; len = 0; answer = 0 }

abbrev item : List (Run ℕ) → ℕ → Run ℕ
item ss i = slice_index_or ss i none

pub add_run-requires-clause-some : goal.add_run-requires-clause-some
add_run-requires-clause-some c =
    (within_at 0 c.args.stretches.now (2 ^ 64 - 1) c.loop-stretch.stretch-index none c.requires c.loop-stretch-test.true).1

pub add_run-requires-clause-low : goal.add_run-requires-clause-low
add_run-requires-clause-low c =
    let w = within_at 0 c.args.stretches.now (2 ^ 64 - 1) c.loop-stretch.stretch-index none c.requires c.loop-stretch-test.true in
    omega (arith, w.2)

pub add_run-requires-clause-held : goal.add_run-requires-clause-held
add_run-requires-clause-held c = λ k below.
    let w = within_at 0 c.args.stretches.now (2 ^ 64 - 1) c.loop-stretch.stretch-index none c.requires c.loop-stretch-test.true in
    held_before c.args.tree.now k (take c.loop-stretch.stretch-index c.args.stretches.now) (runs_in c.loop-stretch.lists.items k)
    (item c.args.stretches.now c.loop-stretch.stretch-index).start
    (c.loop-stretch.invariant.1 k (omega (arith, below, c.loop-stretch.invariant.0))) w.0

pub loop-stretch-preserved : goal.loop-stretch-preserved
loop-stretch-preserved c =
    let w = within_at 0 c.args.stretches.now (2 ^ 64 - 1) c.loop-stretch.stretch-index none c.requires c.loop-stretch-test.true in
    let r : Run ℕ = item c.args.stretches.now c.loop-stretch.stretch-index in
    let groups : c.deref.result.now ≡ spec.holders c.args.tree.now r.answer = c.deref.ensures.value ∙ c.in_ok-groups.ensures in (
      c.in_ok-add_run.ensures.count ∙ c.loop-stretch.invariant.0,
      λ k below.
          subst (λ (ss : List (Run ℕ)). IsGroupRuns c.args.tree.now k ss (runs_in c.add_run.new.lists.items k))
          (sym (take_more c.args.stretches.now c.loop-stretch.stretch-index none c.loop-stretch-test.true))
          (group_more c.args.tree.now k (take c.loop-stretch.stretch-index c.args.stretches.now) r (runs_in c.loop-stretch.lists.items k)
          (runs_in c.add_run.new.lists.items k) (taken_within 0 c.args.stretches.now (2 ^ 64 - 1) c.loop-stretch.stretch-index c.requires)
          (c.loop-stretch.invariant.1 k below) w.0 c.deref.result.now groups
          (c.in_ok-add_run.ensures.each k (omega (arith, below, c.loop-stretch.invariant.0)))),
    )
