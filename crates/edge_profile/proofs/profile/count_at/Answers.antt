use Rattle.std.proofs.Common.{sym, ◌∙◌, arith}
use Rattle.edge_profile.proofs.AscendingPairs.{count_none, count_at}
use Rattle.edge_profile.proofs.profile.count_at.Goals as goal

pub returns-then-below-pairs : goal.returns-then-below-pairs
returns-then-below-pairs c = sym (count_none c.args.pairs.now c.args.from c.args.to c.args.below c.requires.below c.if-below-pairs.true)

pub returns : goal.returns
returns c =
    let within = c.requires.below.within in
    c.count_if_of.ensures
    ∙ sym (count_at c.args.pairs.now c.requires.ascending c.args.from c.args.to c.args.below c.requires.below _
    (omega (arith, c.if-below-pairs.false)))
