use Rattle.std.proofs.Common.{arith, ◌<◌}
use Rattle.dw_lists.proofs.ListSteps.{short, ended, bad, stepped}
use Rattle.dw_lists.proofs.list_reading.read_step.Goals as goal

pub returns-in-Err : goal.returns-in-Err
returns-in-Err c = short c.args.list _ c.args.base c.args.cursor.now.left c.in-Err.field-0 c.in-Err.ensures.gap

pub returns-then-kind-eq0 : goal.returns-then-kind-eq0
returns-then-kind-eq0 c = ended c.args.list _ c.args.base c.args.cursor.now.left c.in-Ok.kind _ c.in-Ok.ensures.read c.if-kind-eq0.true

pub returns-in-Ok-item : goal.returns-in-Ok-item
returns-in-Ok-item c =
    let some : 0 < c.in-Ok.kind = omega (arith, c.if-kind-eq0.false) in
    stepped c.args.list _ c.args.base c.args.cursor.now.left c.in-Ok.kind _ _ _ c.step_of.result c.in-Ok.ensures.read some
    c.in-Ok-item.ensures.read c.step_of.ensures

pub returns-in-Err-item : goal.returns-in-Err-item
returns-in-Err-item c =
    let some : 0 < c.in-Ok.kind = omega (arith, c.if-kind-eq0.false) in
    bad c.args.list _ c.args.base c.args.cursor.now.left c.in-Ok.kind _ _ c.in-Ok.ensures.read some c.in-Err-item.ensures.trouble
