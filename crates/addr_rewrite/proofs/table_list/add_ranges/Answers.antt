use Rattle.std.proofs.Common.{◌∙◌, ◌++◌, List, ap, map, sym}
use Rattle.std.proofs.lemmas.List.{append-nil}
use Rattle.answer_runs.specs.declared.range.Range.{Range}
use Rattle.addr_rewrite.specs.declared.unit_range.UnitRange.{UnitRange}
use Rattle.addr_rewrite.proofs.ListLoops.{mapped_more, mapped_all}
use Rattle.addr_rewrite.proofs.table_list.add_ranges.Goals as goal

pub loop-range-init : goal.loop-range-init
loop-range-init c = sym (append-nil c.args.ranges.now.items)

pub loop-range-preserved : goal.loop-range-preserved
loop-range-preserved c =
    let of : Range → UnitRange = λ r. record { range = r; unit = c.args.table.now.unit } in
    mapped_more of c.deref-range-items.result.now c.loop-range.range-index c.args.ranges.now.items c.loop-range.ranges.items
    c.push.new.self.items
    _ c.loop-range-test.true c.loop-range.invariant c.in_ok-push.ensures.items

pub returns : goal.returns
returns c =
    let of : Range → UnitRange = λ r. record { range = r; unit = c.args.table.now.unit } in
    mapped_all of c.deref-range-items.result.now c.loop-range.range-index c.args.ranges.now.items c.loop-range.ranges.items
    c.loop-range.ranges.items
    c.loop-range-test.false c.loop-range.invariant
    ∙ ap (λ (rs : List Range). c.args.ranges.now.items ++ map of rs) c.deref-range-items.ensures.value
