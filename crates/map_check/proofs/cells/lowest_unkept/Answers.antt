use Rattle.std.proofs.Common.{◌≤◌, arith, length, refl}
use Rattle.move_law.specs.FaithfulRewrite.{KeepsCell}
use Rattle.map_check.proofs.CellBytes.{no_cell}
use Rattle.map_check.proofs.LowestItems.{judged_all, judged_more, judged_none}
use Rattle.map_check.proofs.cells.lowest_unkept.Goals as goal

pub loop-cell-init : goal.loop-cell-init
loop-cell-init c = λ r ch. judged_none (KeepsCell r) (λ d. d.addr) c.args.cells.now

pub loop-cell-preserved : goal.loop-cell-preserved
loop-cell-preserved c = λ r ch.
    judged_more (KeepsCell r) (λ d. d.addr) c.args.cells.now c.loop-cell.cell-index no_cell c.loop-cell-test.true
    c.keeps_cell-kept.result (c.keeps_cell-kept.ensures r ch) c.loop-cell.lowest c.lower-lowest.result c.place_if.result _
    c.lower-lowest.ensures c.place_if.ensures refl (c.loop-cell.invariant r ch)

pub returns-clause-all : goal.returns-clause-all
returns-clause-all c = λ r ch.
    let all : length c.args.cells.now ≤ c.loop-cell.cell-index = omega arith in
    (judged_all (KeepsCell r) (λ d. d.addr) c.args.cells.now c.loop-cell.cell-index c.loop-cell.lowest all
    (c.loop-cell.invariant r ch)).0

pub returns-clause-lowest : goal.returns-clause-lowest
returns-clause-lowest c = λ r ch.
    let all : length c.args.cells.now ≤ c.loop-cell.cell-index = omega arith in
    (judged_all (KeepsCell r) (λ d. d.addr) c.args.cells.now c.loop-cell.cell-index c.loop-cell.lowest all
    (c.loop-cell.invariant r ch)).1
