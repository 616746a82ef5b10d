use Rattle.std.proofs.Common.{arith, ◌∙◌, ◌≤◌, ℕ, List, Some, ap, sym, length}
use Rattle.std.proofs.lemmas.Grind.{common_steps}
use Rattle.std.specs.Option.{option_or}
use Rattle.answer_runs.specs.declared.run.Run.{Run}
use Rattle.answer_runs.specs.AnswerRuns.{said_runs, run_at}
use Rattle.answer_runs.proofs.Grown.{unsaid-within}
use Rattle.answer_runs.proofs.NewCode.{made_more, made_same, past}
use Rattle.cover_lists.specs.Stretches.{bounds_before}
use Rattle.cover_lists.proofs.StretchFacts.{over_said}
use Rattle.cover_lists.proofs.stretches.stretches_of.Goals as goal
use Rattle.cover_lists.proofs.stretches.stretches_of.Goals.{in-Some+then-span-gt0+in_ok-add_span, in-Some+else-span-gt0, in_default}

pub loop-i-preserved : goal.loop-i-preserved
loop-i-preserved c =
    let said : ℕ → ℕ = λ a. bounds_before c.args.bounds.now a in
    elim c.match-span.branch [
      | in-Some+then-span-gt0+in_ok-add_span w ↦
          let old : List (Run ℕ) = said_runs said c.loop-i.stretches.items in
          rw w.stretches-is (made_more (λ a. Some (said a)) c.args.map.now c.requires.ordered c.requires.disjoint c.loop-i.i w.in-Some.span
          (sym w.in-Some.ensures) c.requires.low _ _ c.loop-i.invariant w.if-span-gt0.true
          (λ p. w.in_ok-add_span.ensures.answers p
          ∙ ap (option_or (run_at old p)) (over_said said w.in-Some.span.out w.in-Some.span.len w.in-Some.span.input p))
          w.in_ok-add_span.ensures.within w.in_ok-add_span.ensures.longest)
      | in-Some+else-span-gt0 w ↦
          rw w.stretches-is (made_same (λ a. Some (said a)) c.args.map.now c.requires.ordered c.requires.disjoint c.loop-i.i w.in-Some.span
          (sym w.in-Some.ensures) _ c.loop-i.invariant (omega (arith, w.if-span-gt0.false)))
      | in_default w ↦ let h : length c.args.map.now ≤ c.loop-i.i = past c.args.map.now c.loop-i.i (sym w.in_default.ensures) in
          absurd (omega arith)
    ]

pub returns-clause-within : goal.returns-clause-within
returns-clause-within c = unsaid-within (bounds_before c.args.bounds.now) 0 _ _ c.loop-i.invariant.below

pub returns-clause-runs : goal.returns-clause-runs
returns-clause-runs c = grind (arith, common_steps)
