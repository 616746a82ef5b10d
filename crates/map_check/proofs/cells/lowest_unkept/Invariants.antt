use Rattle.move_law.specs.FaithfulRewrite.{KeepsCell}
use Rattle.move_law.specs.Rewrite.{Rewrite}
use Rattle.map_check.specs.internal.InstRows.{IsChecked}
use Rattle.map_check.proofs.LowestItems.{Judged}
use Rattle.map_check.proofs.cells.lowest_unkept.Given as goal

abbrev pub invariant-loop-cell : goal.invariant-loop-cell
invariant-loop-cell l =
    (r : Rewrite) → IsChecked r l.output l.table → Judged (KeepsCell r) (λ c. c.addr) l.cells l.cell-index l.lowest
