use Rattle.rv_reloc.proofs.Ordered.{from-tested}
use Rattle.rv_reloc.proofs.index.begins_from.Goals as goal

pub returns : goal.returns
returns c = λ is within d.
    from-tested c.args.place c.args.at c.args.index c.args.records.now _ d c.is_before.result within c.is_before.ensures.1 is
