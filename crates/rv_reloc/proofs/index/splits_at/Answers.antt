use Rattle.std.proofs.Common.{arith}
use Rattle.rv_reloc.proofs.Ordered.{split-here}
use Rattle.rv_reloc.proofs.index.splits_at.Goals as goal

pub returns : goal.returns
returns c = λ is.
    split-here c.args.place c.args.at c.args.records.now c.args.index c.requires (omega arith)
    (c.ends_before.ensures c.if-not-ends_before.false) (c.begins_from.ensures is)
