use Rattle.std.proofs.Common.{◌≤◌, arith}
use Rattle.flow_infer.proofs.Moves.{raised_more}
use Rattle.flow_infer.proofs.lifting.longest_step.Goals as goal

pub loop-link-preserved : goal.loop-link-preserved
loop-link-preserved c = λ step below k e within.
    let old : step ≤ c.loop-link.longest = omega arith in
    let new : step ≤ c.longest_step-step.result = omega arith in
    raised_more c.args.heights.now c.args.distances.now c.args.first c.args.links.now c.loop-link.link-index step _ _ _ _ _
    c.loop-link-test.true c.at_ends.ensures.start c.at_ends.ensures.end c.at_ends-in-loop-link.ensures.start
    c.at_ends-in-loop-link.ensures.end
    (c.longest_step-step.ensures step new) (c.loop-link.invariant step old) k e within
