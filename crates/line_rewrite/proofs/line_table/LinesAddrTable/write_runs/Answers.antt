use Rattle.std.proofs.Common.{◌≡◌, ◌∙◌, ℕ, Option, option_map, sym, subst}
use Rattle.std.proofs.lemmas.Iterator.Adapters.{option_map_id}
use Rattle.std.proofs.lemmas.Result.{IfOk-weaker}
use Rattle.answer_runs.specs.AnswerRuns.{carried, run_at}
use Rattle.answer_runs.specs.CarriedAnswers.{IsCarried}
use Rattle.line_rewrite.specs.LineAnswers.{LineSaid}
use Rattle.line_rewrite.specs.LineTable.{LineFits}
use Rattle.line_rewrite.specs.Tables.{line_answers, line_at}
use Rattle.line_rewrite.proofs.TableReads.{said_same}
use Rattle.line_rewrite.proofs.line_table.LinesAddrTable.write_runs.Goals as goal

pub write-requires-clause-fit : goal.write-requires-clause-fit
write-requires-clause-fit c = subst (LineFits c.args.self.now c.args.map.now) (said_same c.args.runs.now) c.requires.fitting

pub write-requires-clause-answers : goal.write-requires-clause-answers
write-requires-clause-answers c = λ p. sym (option_map_id (run_at c.args.runs.now p)) ∙ c.requires.answers p

pub returns-clause-law : goal.returns-clause-law
returns-clause-law c = IfOk-weaker c.write.result _ _ (λ w h i f from stands.
    let t = h i f from stands in
    let all : carried (line_at c.args.self.now) c.args.map.now ≡ (λ p. option_map (λ x. x) (run_at c.args.runs.now p)) =
    λ j p. sym (c.requires.answers p) j in
    (subst (λ (want : ℕ → Option LineSaid). IsCarried (λ (x y : LineSaid). x ≡ y) c.args.map.now want (line_answers f)) all t.0, t.1, t.2))
    c.write.ensures.law
