use Rattle.cover_lists.proofs.StretchFacts.{counted}
use Rattle.cover_lists.proofs.stretches.bounds_before.Goals as goal

pub returns : goal.returns
returns c = counted c.args.bounds.now c.count_near.result c.args.a c.count_near.ensures.below c.count_near.ensures.above
