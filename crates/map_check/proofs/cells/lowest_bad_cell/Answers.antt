use Rattle.map_check.proofs.KeptCells.{all_with, all_without, lowest_with, lowest_without}
use Rattle.map_check.proofs.cells.lowest_bad_cell.Goals as goal

pub returns-in-Some-clause-all : goal.returns-in-Some-clause-all
returns-in-Some-clause-all c = λ r ch same field.
    all_with r c.args.output.now c.args.table.now ch c.args.cells.now same c.args.entry field c.in-Some.address c.in-Some.is
    c.holds_entry-kept.result c.holds_entry-kept.ensures c.place_if.result c.place_if.ensures c.lowest_unkept-lowest.result
    c.lower.result c.lower.ensures (c.lowest_unkept-lowest.ensures.all r ch)

pub returns-in-Some-clause-lowest : goal.returns-in-Some-clause-lowest
returns-in-Some-clause-lowest c = λ r ch same field.
    lowest_with r c.args.output.now c.args.table.now ch c.args.cells.now same c.args.entry field c.in-Some.address c.in-Some.is
    c.holds_entry-kept.result c.holds_entry-kept.ensures c.place_if.result c.place_if.ensures c.lowest_unkept-lowest.result
    c.lower.result c.lower.ensures (c.lowest_unkept-lowest.ensures.lowest r ch)

pub returns-in-None-clause-all : goal.returns-in-None-clause-all
returns-in-None-clause-all c = λ r ch same field.
    all_without r c.args.output.now c.args.table.now ch c.args.cells.now same c.args.entry field c.lowest_unkept-lowest.result
    c.in-None.is (c.lowest_unkept-lowest.ensures.all r ch)

pub returns-in-None-clause-lowest : goal.returns-in-None-clause-lowest
returns-in-None-clause-lowest c = λ r ch same field.
    lowest_without r c.args.output.now c.args.table.now ch c.args.cells.now same c.args.entry field c.lowest_unkept-lowest.result
    c.in-None.is (c.lowest_unkept-lowest.ensures.lowest r ch)
