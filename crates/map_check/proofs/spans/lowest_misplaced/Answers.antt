use Rattle.std.proofs.Common.{refl, arith, ◌≤◌, length}
use Rattle.addr_map.specs.Spans.{IsPlaced}
use Rattle.map_check.specs.internal.SpanLists.{no_span}
use Rattle.map_check.proofs.LowestItems.{judged_none, judged_more, judged_all}
use Rattle.map_check.proofs.spans.lowest_misplaced.Goals as goal

pub loop-span-init : goal.loop-span-init
loop-span-init c = judged_none IsPlaced (λ s. s.input) c.args.spans.now

pub loop-span-preserved : goal.loop-span-preserved
loop-span-preserved c =
    judged_more IsPlaced (λ s. s.input) c.args.spans.now c.loop-span.span-index no_span c.loop-span-test.true c.is_placed.result
    c.is_placed.ensures c.loop-span.lowest c.lower-lowest.result c.place_if.result _ c.lower-lowest.ensures c.place_if.ensures refl
    c.loop-span.invariant

pub returns : goal.returns
returns c =
    let all : length c.args.spans.now ≤ c.loop-span.span-index = omega arith in
    (judged_all IsPlaced (λ s. s.input) c.args.spans.now c.loop-span.span-index c.loop-span.lowest all c.loop-span.invariant).1
