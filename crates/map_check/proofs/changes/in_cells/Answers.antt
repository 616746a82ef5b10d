use Rattle.std.proofs.Common.{◌<◌, arith}
use Rattle.map_check.proofs.CellBytes.{last_only, no_cell, none_up}
use Rattle.map_check.proofs.changes.in_cells.Goals as goal

pub returns-then-above-eq0 : goal.returns-then-above-eq0
returns-then-above-eq0 c =
    none_up c.args.a c.args.cells.now c.count_up_to-above.result c.count_up_to-above.ensures.above no_cell c.if-above-eq0.true

pub returns : goal.returns
returns c =
    let some : 0 < c.count_up_to-above.result = omega (arith, c.if-above-eq0.false) in
    last_only c.args.a c.args.cells.now c.count_up_to-above.result c.count_up_to-above.ensures.above c.requires _ c.has_byte.result
    some c.count_up_to-above.ensures.bound c.count_up_to-above.ensures.below c.has_byte.ensures
