use Rattle.std.proofs.Common.{List, sym, subst}
use Rattle.answer_runs.specs.declared.run.Run.{Run}
use Rattle.line_rewrite.specs.LineAnswers.{LineSaid}
use Rattle.line_rewrite.specs.LineTable.{LineFits}
use Rattle.table_set.proofs.carrying.carry_lines.Goals as goal

pub write-requires-clause-within : goal.write-requires-clause-within
write-requires-clause-within c = rw c.deref.ensures.value c.requires.within

pub write-requires-clause-answers : goal.write-requires-clause-answers
write-requires-clause-answers c = λ p. rw c.deref.ensures.value (c.requires.runs.answered p)

pub write-requires-clause-fit : goal.write-requires-clause-fit
write-requires-clause-fit c =
    subst (λ (rs : List (Run LineSaid)). LineFits c.args.lines.now c.args.map.now rs) (sym c.deref.ensures.value) c.requires.fit
