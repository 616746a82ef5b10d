use Rattle.rv_reloc.proofs.Ordered.{any-where}
use Rattle.rv_reloc.proofs.index.has.Goals as goal

pub returns : goal.returns
returns c =
    any-where c.args.place c.args.at c.args.records.now c.count_near.result c.has_key_at.result c.requires
    c.count_near.ensures c.has_key_at.ensures
