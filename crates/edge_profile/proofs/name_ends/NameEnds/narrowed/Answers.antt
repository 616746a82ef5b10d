use Rattle.std.proofs.Common.{ap}
use Rattle.std.specs.Prelude.{slice_range}
use Rattle.edge_profile.specs.NameEnds.{Backward}
use Rattle.edge_profile.proofs.NameEnding.{narrowed-range}
use Rattle.edge_profile.proofs.name_ends.NameEnds.narrowed.Goals as goal

pub returns : goal.returns
returns c = λ end is.
    let start = c.args.ending.start in
    let past = c.args.ending.end in
    narrowed-range c.args.self.now.backward.items c.args.self.now.ordered end c.args.ending is c.args.byte
    (slice_range c.deref.result.now start past) c.count_up_to-below.result c.count_up_to-through.result
    (ap (λ (names : Backward). slice_range names start past) c.deref.ensures.value)
    c.count_up_to-below.ensures.bound c.count_up_to-through.ensures.bound c.count_up_to-below.ensures.up_to
    c.count_up_to-below.ensures.above c.count_up_to-through.ensures.up_to c.count_up_to-through.ensures.above
