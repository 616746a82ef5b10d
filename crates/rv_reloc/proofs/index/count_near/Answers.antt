use Rattle.rv_reloc.proofs.index.count_near.Goals as goal

pub returns-then-splits_at : goal.returns-then-splits_at
returns-then-splits_at c = c.splits_at.ensures c.if-splits_at.true
