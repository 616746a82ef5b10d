use Rattle.std.proofs.Common.{◌≤◌, arith}
use Rattle.flow_infer.proofs.Moves.{step_holds}
use Rattle.flow_infer.proofs.flow.Link.longest_step.Goals as goal

pub returns : goal.returns
returns c = λ step below.
    let end : step ≤ c.step_within-end.result = omega arith in
    let start : step ≤ c.step_within-start.result = omega arith in
    step_holds c.args.heights.start c.args.heights.end c.args.distances.start c.args.distances.end _ _ step c.args.self.now
    c.slack_of_end.ensures c.slack_of_start.ensures (c.step_within-end.ensures step end) (c.step_within-start.ensures step start)
    c.requires
