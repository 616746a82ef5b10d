use Rattle.std.proofs.Common.{◌≡◌, ◌∙◌, ◌^◌, ℕ, List, Option, ap, sym, subst, refl}
use Rattle.std.specs.Prelude.{slice_get}
use Rattle.std.specs.Global.{Vec}
use Rattle.std.specs.Option.{option_or}
use Rattle.answer_runs.specs.Choices.{unless_empty}
use Rattle.answer_runs.specs.LastRuns.{IsAnswer, ends_at}
use Rattle.answer_runs.specs.declared.run.Run.{Run}
use Rattle.answer_runs.specs.AnswerRuns.{said_runs, run_at}
use Rattle.answer_runs.proofs.Grown.{run_at-longer, within-longer, longest-longer, said-longer, said-ends, last-room, unsaid-within}
use Rattle.cover_lists.specs.KeptLists.{said_by}
use Rattle.cover_lists.specs.ListRuns.{said, IsExtended}
use Rattle.cover_lists.proofs.ListRunFacts.{at_all, none_extended, some_said, none_said}
use Rattle.cover_lists.proofs.list_runs.put_answer.Goals as goal

first : {xs ys : List (Vec ℕ)} → xs ≡ ys → slice_get ys 0 ≡ slice_get xs 0
first same = ap (λ l. slice_get l 0) (sym same)

pub ends_at-requires : goal.ends_at-requires
ends_at-requires c = rw c.deref.ensures.value (unsaid-within said 0 _ _ c.requires.before)

pub lengthen-requires : goal.lengthen-requires
lengthen-requires c = last-room 0 _ c.args.start c.args.len (2 ^ 64) (unsaid-within said 0 _ _ c.requires.before) c.requires.fits

pub returns-then-goes_on : goal.returns-then-goes_on
returns-then-goes_on c =
    let runs : List (Run (Vec (Vec ℕ))) = c.args.runs.now.items in
    let o : Option (List (List ℕ)) = unless_empty (said_by c.args.list.now c.args.numbers.now) in
    let ends = said-ends said runs c.args.start ∙ ap (ends_at c.args.start) (sym c.deref.ensures.value) ∙ sym c.ends_at.ensures
    ∙ c.if-ends_at.true in
    let is : IsAnswer o (said_runs said runs) =
    subst (λ (l : List (Run (Vec (Vec ℕ)))). IsAnswer o (said_runs said l)) c.deref-then-ends_at.ensures.value
    (c.if-goes_on.ensures refl) in
    rw (c.lengthen.ensures, said-longer said runs c.args.len) (record {
      within = within-longer 0 (said_runs said runs) c.args.start c.args.len c.requires.before;
      longest = longest-longer (said_runs said runs) c.args.len c.requires.longest;
      answers = λ p. run_at-longer (said_runs said runs) c.args.start c.args.len p (λ (z : ℕ). o) 0 ends is
          ∙ ap (option_or (run_at (said_runs said runs) p)) (at_all o c.args.start c.args.len p);
    })

pub returns-in_ok-add-in-Some : goal.returns-in_ok-add-in-Some
returns-in_ok-add-in-Some c =
    subst (λ (o : Option (List (List ℕ))). IsExtended c.args.start c.args.len o (said_runs said c.args.runs.now.items)
    (said_runs said c.add.new.runs.items))
    (sym (some_said c.in_ok-answer.answer.items _ (first c.deref-2.ensures.value ∙ sym c.in-Some.ensures.value))
    ∙ ap unless_empty c.in_ok-answer.ensures) c.in_ok-add-in-Some.ensures

pub returns-in-None : goal.returns-in-None
returns-in-None c =
    subst (λ (o : Option (List (List ℕ))). IsExtended c.args.start c.args.len o (said_runs said c.args.runs.now.items)
    (said_runs said c.args.runs.now.items))
    (sym (none_said c.in_ok-answer.answer.items (first c.deref-2.ensures.value ∙ sym c.in-None.ensures.value))
    ∙ ap unless_empty c.in_ok-answer.ensures)
    (none_extended c.args.start c.args.len (said_runs said c.args.runs.now.items) c.requires.before c.requires.longest)
