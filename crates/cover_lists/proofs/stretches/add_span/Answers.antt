use Rattle.std.proofs.Common.{arith, ◌+◌, ◌≢◌, sym, refl, ◌∙◌, ap, ◌^◌, Some, List, ℕ, subst}
use Rattle.std.specs.Option.{option_or}
use Rattle.answer_runs.specs.LastRuns.{IfLast, IsAnswer, ends_at}
use Rattle.answer_runs.specs.declared.run.Run.{Run}
use Rattle.answer_runs.specs.AnswerRuns.{said_runs, run_at, answer_over}
use Rattle.answer_runs.proofs.Grown.{run_at-more, longest-more, within-more, said-more, IsApart, apart-end, last-weaker, run_at-longer}
use Rattle.answer_runs.proofs.Grown.{within-longer, longest-longer, said-longer, said-ends, last-room, unsaid-within, and_then-Some}
use Rattle.cover_lists.specs.Stretches.{bounds_before}
use Rattle.cover_lists.proofs.stretches.add_span.Goals as goal
use Rattle.cover_lists.proofs.stretches.add_span.Goals.{else-ends_at-via-then-ends_at+else-goes_on, else-ends_at-via-else-ends_at}

pub ends_at-requires : goal.ends_at-requires
ends_at-requires c = rw c.deref.ensures.value (unsaid-within (bounds_before c.args.bounds.now) 0 _ _ c.requires.before)

pub lengthen-requires : goal.lengthen-requires
lengthen-requires c =
    last-room 0 _ c.args.span.out c.args.span.len (2 ^ 64) (unsaid-within (bounds_before c.args.bounds.now) 0 _ _ c.requires.before)
    c.requires.fits

pub returns-then-goes_on : goal.returns-then-goes_on
returns-then-goes_on c =
    let said : ℕ → ℕ = λ a. bounds_before c.args.bounds.now a in
    let runs : List (Run ℕ) = c.args.stretches.now.items in
    let x : ℕ = said c.args.span.input in
    let ends = said-ends said runs c.args.span.out ∙ ap (ends_at c.args.span.out) (sym c.deref.ensures.value) ∙ sym c.ends_at.ensures
    ∙ c.if-ends_at.true in
    let is : IsAnswer (Some x) (said_runs said runs) =
    subst (λ (l : List (Run ℕ)). IsAnswer (Some x) (said_runs said l)) c.deref-then-ends_at.ensures.value (c.if-goes_on.ensures.has refl) in
    rw (c.lengthen.ensures, said-longer said runs c.args.span.len) (record {
      within = within-longer 0 (said_runs said runs) c.args.span.out c.args.span.len c.requires.before;
      longest = longest-longer (said_runs said runs) c.args.span.len c.requires.longest;
      answers = λ p. run_at-longer (said_runs said runs) c.args.span.out c.args.span.len p Some x ends is
          ∙ ap (option_or (run_at (said_runs said runs) p)) (and_then-Some (answer_over c.args.span.out c.args.span.len x p));
    })

pub returns-in_ok-push : goal.returns-in_ok-push
returns-in_ok-push c =
    let said : ℕ → ℕ = λ a. bounds_before c.args.bounds.now a in
    let runs : List (Run ℕ) = c.args.stretches.now.items in
    let r : Run ℕ = record { start = c.args.span.out; len = c.args.span.len; answer = said c.args.span.input } in
    let apart : IfLast (IsApart r) (said_runs said runs) = elim c.else-ends_at.branch [
      | else-ends_at-via-then-ends_at+else-goes_on w ↦
          last-weaker {P = λ l. l.answer ≢ r.answer} {Q = IsApart r} (said_runs said runs) (λ l differ meets. differ)
          (subst (λ (l : List (Run ℕ)). IfLast (λ m. m.answer ≢ r.answer) (said_runs said l))
          w.deref-then-ends_at.ensures.value (w.goes_on.ensures.lacks w.if-goes_on.false))
      | else-ends_at-via-else-ends_at w ↦
          apart-end (said_runs said runs) r
          (said-ends said runs c.args.span.out ∙ ap (ends_at c.args.span.out) (sym c.deref.ensures.value) ∙ sym c.ends_at.ensures
          ∙ w.if-ends_at.false)
    ] in
    rw (c.in_ok-push.ensures.items, said-more said runs _) (record {
      within = within-more 0 (said_runs said runs) r (c.args.span.out + c.args.span.len) c.requires.before c.requires.some (omega arith);
      longest = longest-more (said_runs said runs) r c.requires.longest apart;
      answers = λ p. run_at-more (said_runs said runs) r p;
    })
