use Rattle.std.proofs.Common.{arith, ◌≢◌, sym, refl, ◌∙◌, ap, ◌^◌, Some, subst}
use Rattle.std.specs.Option.{option_or}
use Rattle.answer_runs.specs.LastRuns.{IfLast, IsAnswer, ends_at}
use Rattle.answer_runs.specs.declared.run.Run.{Run}
use Rattle.answer_runs.specs.AnswerRuns.{said_runs, run_at, answer_over}
use Rattle.answer_runs.proofs.Grown.{run_at-more, longest-more, within-more, answer-more, said-more, IsApart, apart-end, last-weaker}
use Rattle.answer_runs.proofs.Grown.{run_at-longer, within-longer, longest-longer, answer-longer, said-longer, said-ends, last-room}
use Rattle.answer_runs.proofs.Grown.{unsaid-within, and_then-Some}
use Rattle.table_core.proofs.carrying.add.Goals as goal
use Rattle.table_core.proofs.carrying.add.Goals.{else-ends_at-via-then-ends_at+else-ends_with, else-ends_at-via-else-ends_at}

pub ends_at-requires : goal.ends_at-requires
ends_at-requires g c = rw c.deref.ensures.value (unsaid-within g.T.ByAddress.said 0 _ _ c.requires.before)

pub lengthen-requires : goal.lengthen-requires
lengthen-requires g c = last-room 0 _ c.args.start c.args.len (2 ^ 64) (unsaid-within g.T.ByAddress.said 0 _ _ c.requires.before)
    c.requires.fits

pub returns-then-ends_with-clause-answers : goal.returns-then-ends_with-clause-answers
returns-then-ends_with-clause-answers g c = λ p.
    let said = g.T.ByAddress.said in
    let runs = c.args.runs.now.items in
    let ends = said-ends said runs c.args.start ∙ ap (ends_at c.args.start) (sym c.deref.ensures.value) ∙ sym c.ends_at.ensures
    ∙ c.if-ends_at.true in
    let is = subst (λ l. IsAnswer (Some (said c.args.answer)) (said_runs said l)) c.deref-then-ends_at.ensures.value
    (c.if-ends_with.ensures.has refl) in
    rw (c.lengthen.ensures, said-longer said runs c.args.len)
    (run_at-longer (said_runs said runs) c.args.start c.args.len p Some (said c.args.answer) ends is
    ∙ ap (option_or (run_at (said_runs said runs) p)) (and_then-Some (answer_over c.args.start c.args.len (said c.args.answer) p)))

pub returns-then-ends_with-clause-within : goal.returns-then-ends_with-clause-within
returns-then-ends_with-clause-within g c =
    rw (c.lengthen.ensures, said-longer g.T.ByAddress.said _ c.args.len) (within-longer 0 _ c.args.start c.args.len c.requires.before)

pub returns-then-ends_with-clause-longer : goal.returns-then-ends_with-clause-longer
returns-then-ends_with-clause-longer g c =
    rw (c.lengthen.ensures, said-longer g.T.ByAddress.said _ c.args.len) (longest-longer _ c.args.len c.requires.longest)

pub returns-then-ends_with-clause-last : goal.returns-then-ends_with-clause-last
returns-then-ends_with-clause-last g c =
    let said = g.T.ByAddress.said in
    let is = subst (λ l. IsAnswer (Some (said c.args.answer)) (said_runs said l)) c.deref-then-ends_at.ensures.value
    (c.if-ends_with.ensures.has refl) in
    rw (c.lengthen.ensures, said-longer said c.args.runs.now.items c.args.len)
    (answer-longer (Some (said c.args.answer)) (said_runs said c.args.runs.now.items) c.args.len is)

pub returns-in_ok-push-clause-answers : goal.returns-in_ok-push-clause-answers
returns-in_ok-push-clause-answers g c = λ p. rw (c.in_ok-push.ensures.items, said-more g.T.ByAddress.said _ _) (run_at-more _ _ p)

pub returns-in_ok-push-clause-within : goal.returns-in_ok-push-clause-within
returns-in_ok-push-clause-within g c =
    rw (c.in_ok-push.ensures.items, said-more g.T.ByAddress.said _ _)
    (within-more 0 _ _ _ c.requires.before c.requires.some (omega arith))

pub returns-in_ok-push-clause-longer : goal.returns-in_ok-push-clause-longer
returns-in_ok-push-clause-longer g c =
    let said = g.T.ByAddress.said in
    let runs = c.args.runs.now.items in
    let r : Run g.T.ByAddress.Meaning = record { start = c.args.start; len = c.args.len; answer = said c.args.answer } in
    let apart : IfLast (IsApart r) (said_runs said runs) = elim c.else-ends_at.branch [
      | else-ends_at-via-then-ends_at+else-ends_with w ↦
          last-weaker {P = λ l. l.answer ≢ r.answer} {Q = IsApart r} (said_runs said runs) (λ l differ meets. differ)
          (subst (λ l. IfLast (λ m. m.answer ≢ r.answer) (said_runs said l)) w.deref-then-ends_at.ensures.value
          (w.ends_with.ensures.lacks w.if-ends_with.false))
      | else-ends_at-via-else-ends_at w ↦
          apart-end (said_runs said runs) r
          (said-ends said runs c.args.start ∙ ap (ends_at c.args.start) (sym c.deref.ensures.value) ∙ sym c.ends_at.ensures
          ∙ w.if-ends_at.false)
    ] in
    rw (c.in_ok-push.ensures.items, said-more said runs _) (longest-more (said_runs said runs) r c.requires.longest apart)

pub returns-in_ok-push-clause-last : goal.returns-in_ok-push-clause-last
returns-in_ok-push-clause-last g c =
    rw (c.in_ok-push.ensures.items, said-more g.T.ByAddress.said _ _)
    (answer-more {A = g.T.ByAddress.Meaning} (said_runs g.T.ByAddress.said c.args.runs.now.items)
    (record { start = c.args.start; len = c.args.len; answer = g.T.ByAddress.said c.args.answer }))
