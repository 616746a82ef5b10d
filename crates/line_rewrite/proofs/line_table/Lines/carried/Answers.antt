use Rattle.std.proofs.Common.{◌-◌, ◌^◌, List, subst}
use Rattle.std.proofs.lemmas.Result.{IfOk-weaker}
use Rattle.answer_runs.specs.declared.run.Run.{Run}
use Rattle.answer_runs.specs.AnswerRuns.{carried, AreRunsOf, IsWithin}
use Rattle.line_rewrite.specs.LineAnswers.{LineSaid}
use Rattle.line_rewrite.specs.Tables.{line_at}
use Rattle.line_rewrite.proofs.TableReads.{said_same}
use Rattle.line_rewrite.proofs.line_table.Lines.carried.Goals as goal

pub returns-clause-runs : goal.returns-clause-runs
returns-clause-runs c = IfOk-weaker c.runs_of.result _ _
    (λ runs are. subst (λ (l : List (Run LineSaid)). AreRunsOf (carried (line_at c.args.self.now) c.args.map.now) l)
    (said_same runs.items) are)
    c.runs_of.ensures.runs

pub returns-clause-within : goal.returns-clause-within
returns-clause-within c = IfOk-weaker c.runs_of.result _ _
    (λ runs within. subst (λ (l : List (Run LineSaid)). IsWithin 0 l (2 ^ 64 - 1)) (said_same runs.items) within)
    c.runs_of.ensures.within
