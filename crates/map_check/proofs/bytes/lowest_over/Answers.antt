use Rattle.std.proofs.Common.{◌≡◌, length, arith}
use Rattle.elf_image.proofs.LowestPlaces.{IsLowest-begin, IsLowest-next, IsLowest-all}
use Rattle.map_check.specs.internal.KeptBytes.{ChangedAt}
use Rattle.map_check.proofs.KeptPlaces.{changed_here}
use Rattle.map_check.proofs.bytes.lowest_over.Goals as goal

pub loop-segment-init : goal.loop-segment-init
loop-segment-init c = λ r of ch. IsLowest-begin (ChangedAt r c.args.segments.now)

pub loop-segment-preserved : goal.loop-segment-preserved
loop-segment-preserved c = λ r of ch.
    IsLowest-next (ChangedAt r c.args.segments.now) c.loop-segment.segment-index _ _ _ c.lower-lowest.ensures
    (c.loop-segment.invariant r of ch)
    (changed_here r c.args.segments.now c.loop-segment.segment-index _ c.lowest_in_segment.result c.loop-segment-test.true
    (c.lowest_in_segment.ensures r of ch))

pub returns : goal.returns
returns c = λ r of ch.
    let all : c.loop-segment.segment-index ≡ length c.args.segments.now = omega arith in
    IsLowest-all (ChangedAt r c.args.segments.now) c.loop-segment.segment-index (length c.args.segments.now) c.loop-segment.lowest all
    (c.loop-segment.invariant r of ch)
