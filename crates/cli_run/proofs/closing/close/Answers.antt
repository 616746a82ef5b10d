use Rattle.std.proofs.Common.{◌∙◌, refl, sym}
use Rattle.cli_run.proofs.Outcomes.{line_closes, nothing_closes}
use Rattle.cli_run.proofs.closing.close.Goals as goal

pub returns-then-is_outcome-clause-closed : goal.returns-then-is_outcome-clause-closed
returns-then-is_outcome-clause-closed g c =
    line_closes c.print_line.result c.args.steps (g.O.Sink.seen c.args.out.now) (g.O.Sink.seen c.print_line.new.out) c.args.came
    (sym c.is_outcome.ensures ∙ c.if-is_outcome.true) (c.print_line.ensures.printed _ c.closing_line.ensures)

pub returns-else-is_outcome-clause-closed : goal.returns-else-is_outcome-clause-closed
returns-else-is_outcome-clause-closed g c =
    nothing_closes c.args.came c.args.steps (g.O.Sink.seen c.args.out.now) (g.O.Sink.seen c.args.out.now) c.args.came
    (sym c.is_outcome.ensures ∙ c.if-is_outcome.false) refl refl
