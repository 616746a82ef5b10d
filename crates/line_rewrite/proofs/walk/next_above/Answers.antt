use Rattle.line_rewrite.proofs.Between.{above_done, above_there, above_more}
use Rattle.line_rewrite.proofs.walk.next_above.Goals as goal

pub returns-then-row-a-clause-next : goal.returns-then-row-a-clause-next
returns-then-row-a-clause-next c =
    above_there c.args.a c.loop-row.row-index c.args.rows.now _ c.loop-row.invariant _ c.loop-row-test.true c.if-row-a.true

pub loop-row-preserved : goal.loop-row-preserved
loop-row-preserved c =
    above_more c.args.a c.loop-row.row-index c.args.rows.now _ c.loop-row.invariant _ c.loop-row-test.true c.if-row-a.false

pub returns-clause-next : goal.returns-clause-next
returns-clause-next c = above_done c.args.a c.loop-row.row-index c.args.rows.now _ c.loop-row.invariant c.loop-row-test.false
