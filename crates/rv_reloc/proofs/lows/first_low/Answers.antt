use Rattle.std.proofs.Common.{◌<◌, arith, length, slice_index_or}
use Rattle.std.proofs.lemmas.List.{get_or_default}
use Rattle.rv_reloc.proofs.Differing.{no_low}
use Rattle.rv_reloc.proofs.FirstLow.{first_other}
use Rattle.rv_reloc.proofs.lows.first_low.Goals as goal

pub returns-else-low-hi-clause-each : goal.returns-else-low-hi-clause-each
returns-else-low-hi-clause-each c = λ l listed same.
    let lows = c.args.lows.now in
    let index = c.count_below-index.result in
    let bound = c.count_below-index.ensures.bound in
    let other = c.if-index-lows.false in
    let inside : index < length lows = omega arith in
    absurd (first_other lows c.args.hi index l
    (slice_index_or lows index no_low) c.requires c.count_below-index.ensures.below inside
    (get_or_default lows index no_low (slice_index_or lows index no_low) inside)
    (c.count_below-index.ensures.above index no_low (omega arith) inside) c.if-low-hi.false listed same)
