use Rattle.std.proofs.Common.{◌≡◌, ℕ, List, Option, Some, None, refl, sym, subst}
use Rattle.std.specs.Prelude.{IfOk, option_map}
use Rattle.std.proofs.lemmas.List.{map-id}
use Rattle.std.proofs.lemmas.Result.{IfOk-weaker}
use Rattle.answer_runs.specs.declared.run.Run.{Run}
use Rattle.answer_runs.specs.AnswerRuns.{run_at}
use Rattle.answer_runs.specs.CarriedAnswers.{IsCarried}
use Rattle.frame_rewrite.specs.CarriedFrames.{IsCarriedFrame}
use Rattle.frame_rewrite.specs.FrameAnswers.{FrameAnswer}
use Rattle.frame_rewrite.specs.Tables.{EhMakes, eh_answers}
use Rattle.frame_rewrite.proofs.eh_table.EhFramesAddrTable.write_runs.Goals as goal

same : (o : Option FrameAnswer) → o ≡ option_map (λ (x : FrameAnswer). x) o
same None = refl
same (Some a) = refl

pub returns-clause-law : goal.returns-clause-law
returns-clause-law c = IfOk-weaker c.write_eh.result _ _ (λ w h i f from there.
    let law = h i f from there in (
      subst (λ (says : ℕ → Option FrameAnswer). IsCarried (IsCarriedFrame c.args.map.now) c.args.map.now says (eh_answers f))
          (λ j p. same (run_at c.args.runs.now p) j) law.0,
      law.1,
      tt,
    )) c.write_eh.ensures.law

pub returns-clause-made : goal.returns-clause-made
returns-clause-made c =
    subst (λ (l : List (Run FrameAnswer)). IfOk c.write_eh.result (λ w. EhMakes c.args.self.now c.args.map.now l w))
    (sym (map-id c.args.runs.now)) c.write_eh.ensures.made
