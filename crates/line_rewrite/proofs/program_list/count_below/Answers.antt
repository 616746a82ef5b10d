use Rattle.line_rewrite.proofs.CutRuns.{count_end, count_here, count_on}
use Rattle.line_rewrite.proofs.program_list.count_below.Goals as goal

pub loop-i-preserved : goal.loop-i-preserved
loop-i-preserved c =
    count_on c.args.cuts.now c.args.bound c.loop-i.i _ c.loop-i-test.true c.if-cut-bound.false _ c.loop-i.invariant

pub returns-then-cut-bound-clause-count : goal.returns-then-cut-bound-clause-count
returns-then-cut-bound-clause-count c =
    count_here c.args.cuts.now c.args.bound c.loop-i.i _ c.loop-i-test.true c.if-cut-bound.true _ c.loop-i.invariant

pub returns-clause-count : goal.returns-clause-count
returns-clause-count c =
    count_end c.args.cuts.now c.args.bound c.loop-i.i c.loop-i-test.false c.loop-i.invariant
