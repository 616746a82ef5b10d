use Rattle.std.proofs.Common.{refl}
use Rattle.std.specs.Prelude.{sum_by}
use Rattle.line_rewrite.proofs.TableReads.{weight_in}
use Rattle.line_rewrite.proofs.line_table.Lines.weight_of.Goals as goal

pub returns : goal.returns
returns c = λ spans are. (
  sum_by weight_in c.args.runs.now,
  record { runs = c.args.runs.now; are_runs = are; sum = refl },
  c.runs_weight.ensures,
)
