use Rattle.std.proofs.Common.{◌∙◌}
use Rattle.frame_rewrite.proofs.ToldEntries.{index-of}
use Rattle.frame_rewrite.proofs.lookup.index_of.Goals as goal

pub returns : goal.returns
returns c = index-of c.new.result c.args.list.now c.deref.result.now c.new.ensures (c.deref.ensures.value
    ∙ c.in_ok-ranges.ensures)
