use Rattle.std.proofs.Common.{length}
use Rattle.flow_infer.proofs.Moves.{moved_one}
use Rattle.flow_infer.proofs.pushing.move_at.Goals as goal

pub returns : goal.returns
returns c = moved_one c.args.heights.now c.args.first (length c.args.heights.now) c.args.links.now c.args.place _ _ _ c.moved.result
    c.requires.steady c.requires.place c.moved.ensures.same c.at_ends-ends.ensures.start c.at_ends-ends.ensures.end c.moved.ensures.holds
