use Rattle.std.proofs.Common.{arith, ◌+◌, ◌≢◌, sym, refl, ◌∙◌, ap, ◌^◌, Some, List, ℕ, subst}
use Rattle.std.specs.Global.{Vec}
use Rattle.std.specs.Option.{option_or}
use Rattle.answer_runs.specs.LastRuns.{IfLast, IsAnswer, ends_at}
use Rattle.answer_runs.specs.declared.run.Run.{Run}
use Rattle.answer_runs.specs.AnswerRuns.{said_runs, run_at, answer_over}
use Rattle.answer_runs.proofs.Grown.{run_at-more, longest-more, within-more, said-more, IsApart, apart-end, last-weaker, run_at-longer}
use Rattle.answer_runs.proofs.Grown.{within-longer, longest-longer, said-longer, said-ends, last-room, unsaid-within, and_then-Some}
use Rattle.cover_lists.specs.KeptLists.{items_in}
use Rattle.cover_lists.specs.ListRuns.{said}
use Rattle.cover_lists.proofs.list_runs.add.Goals as goal
use Rattle.cover_lists.proofs.list_runs.add.Goals.{else-ends_at-via-then-ends_at+else-ends_with, else-ends_at-via-else-ends_at}

pub ends_at-requires : goal.ends_at-requires
ends_at-requires c = rw c.deref.ensures.value (unsaid-within said 0 _ _ c.requires.before)

pub lengthen-requires : goal.lengthen-requires
lengthen-requires c = last-room 0 _ c.args.start c.args.len (2 ^ 64) (unsaid-within said 0 _ _ c.requires.before) c.requires.fits

pub returns-then-ends_with : goal.returns-then-ends_with
returns-then-ends_with c =
    let runs : List (Run (Vec (Vec ℕ))) = c.args.runs.now.items in
    let x : List (List ℕ) = items_in c.args.answer.items in
    let ends = said-ends said runs c.args.start ∙ ap (ends_at c.args.start) (sym c.deref.ensures.value) ∙ sym c.ends_at.ensures
    ∙ c.if-ends_at.true in
    let is : IsAnswer (Some x) (said_runs said runs) =
    subst (λ (y : List (List ℕ)). IsAnswer (Some y) (said_runs said runs)) (ap items_in c.deref-then-ends_at-2.ensures.value)
    (subst (λ (l : List (Run (Vec (Vec ℕ)))). IsAnswer (Some (items_in c.deref-then-ends_at-2.result.now)) (said_runs said l))
    c.deref-then-ends_at.ensures.value (c.if-ends_with.ensures.has refl)) in
    rw (c.lengthen.ensures, said-longer said runs c.args.len) (record {
      within = within-longer 0 (said_runs said runs) c.args.start c.args.len c.requires.before;
      longest = longest-longer (said_runs said runs) c.args.len c.requires.longest;
      answers = λ p. run_at-longer (said_runs said runs) c.args.start c.args.len p Some x ends is
          ∙ ap (option_or (run_at (said_runs said runs) p)) (and_then-Some (answer_over c.args.start c.args.len x p));
    })

pub returns-in_ok-push : goal.returns-in_ok-push
returns-in_ok-push c =
    let runs : List (Run (Vec (Vec ℕ))) = c.args.runs.now.items in
    let r : Run (List (List ℕ)) = record { start = c.args.start; len = c.args.len; answer = items_in c.args.answer.items } in
    let apart : IfLast (IsApart r) (said_runs said runs) = elim c.else-ends_at.branch [
      | else-ends_at-via-then-ends_at+else-ends_with w ↦
          last-weaker {P = λ l. l.answer ≢ r.answer} {Q = IsApart r} (said_runs said runs) (λ l differ meets. differ)
          (subst (λ (y : List (List ℕ)). IfLast (λ m. m.answer ≢ y) (said_runs said runs))
          (ap items_in w.deref-then-ends_at-2.ensures.value)
          (subst (λ (l : List (Run (Vec (Vec ℕ)))). IfLast (λ m. m.answer ≢ items_in w.deref-then-ends_at-2.result.now) (said_runs said l))
          w.deref-then-ends_at.ensures.value (w.ends_with.ensures.lacks w.if-ends_with.false)))
      | else-ends_at-via-else-ends_at w ↦
          apart-end (said_runs said runs) r
          (said-ends said runs c.args.start ∙ ap (ends_at c.args.start) (sym c.deref.ensures.value) ∙ sym c.ends_at.ensures
          ∙ w.if-ends_at.false)
    ] in
    rw (c.in_ok-push.ensures.items, said-more said runs _) (record {
      within = within-more 0 (said_runs said runs) r (c.args.start + c.args.len) c.requires.before c.requires.some (omega arith);
      longest = longest-more (said_runs said runs) r c.requires.longest apart;
      answers = λ p. run_at-more (said_runs said runs) r p;
    })
