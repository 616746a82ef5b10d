use Rattle.map_check.proofs.KeptCells.{holds}
use Rattle.map_check.proofs.cells.keeps_cell.Goals as goal

pub returns-in-Some : goal.returns-in-Some
returns-in-Some c = λ r ch.
    holds r c.args.output.now c.args.table.now ch c.args.cell.now c.in-Some.found c.cut-wanted.result c.number_of.result
    c.in-Some.ensures.value c.cut-wanted.ensures (c.number_of.ensures r c.args.output.now ch)
