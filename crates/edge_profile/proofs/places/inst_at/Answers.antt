use Rattle.std.proofs.Common.{arith}
use Rattle.edge_profile.proofs.LaidOut.{no_inst_at, no_inst_from}
use Rattle.edge_profile.proofs.places.inst_at.Goals as goal

pub returns-then-below-insts-clause-none : goal.returns-then-below-insts-clause-none
returns-then-below-insts-clause-none c =
    no_inst_at c.args.insts.now c.args.address c.count_below-below.result c.count_below-below.ensures.below
    (λ k d from within. absurd (omega arith))

pub returns-then-insts-below-clause-none : goal.returns-then-insts-below-clause-none
returns-then-insts-below-clause-none c =
    no_inst_from c.args.insts.now c.requires c.args.address c.count_below-below.result _ c.count_below-below.ensures.below
    c.count_below-below.ensures.above (λ within. c.if-insts-below.true)
