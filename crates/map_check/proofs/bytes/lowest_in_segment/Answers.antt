use Rattle.std.proofs.Common.{refl, sym, ◌∙◌, rules}
use Rattle.map_check.proofs.KeptPlaces.{no_memory, first_lowest}
use Rattle.map_check.proofs.bytes.lowest_in_segment.Goals as goal

pub returns-then-not-has_memory : goal.returns-then-not-has_memory
returns-then-not-has_memory c = λ r of ch.
    no_memory r c.args.segment.now (sym c.has_memory.ensures ∙ c.if-not-has_memory.true)

pub returns : goal.returns
returns c = λ r of ch.
    first_lowest r c.args.segment.now c.args.segment.now.vaddr _ c.lowest_in.result refl c.end-end.ensures.end (search rules)
    (c.lowest_in.ensures r of ch)
