use Rattle.std.proofs.Common.{arith}
use Rattle.line_rewrite.proofs.line_table.LinesByAddress.begin.Goals as goal

pub returns : goal.returns
returns c = λ t. record {
  ascend = c.no_rows.ensures.rows;
  said = λ x low high. let none = c.no_rows.ensures.range in absurd (omega (arith, none, low, high));
}
