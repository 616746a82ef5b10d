use Rattle.std.proofs.Common.{◌≡◌, ◌-◌, ◌++◌, flat_map, take}
use Rattle.std.specs.List.{range_with_len}
use Rattle.flow_text.specs.Report.{link_line, price_line}
use Rattle.flow_text.proofs.reporting.put_function.Given as goal

abbrev pub invariant-loop-place : goal.invariant-loop-place
invariant-loop-place l = l.text.items
    ≡ l.fn.text.items ++ flat_map (price_line l.funcs l.blocks l.flow.prices.items) (range_with_len l.first (l.place - l.first))

abbrev pub invariant-loop-link : goal.invariant-loop-link
invariant-loop-link l = l.text.items
    ≡ l.fn.text.items ++ flat_map (price_line l.funcs l.blocks l.flow.prices.items) (range_with_len l.first (l.end - l.first))
    ++ flat_map (link_line l.funcs l.blocks) (take l.link-index l.links)
