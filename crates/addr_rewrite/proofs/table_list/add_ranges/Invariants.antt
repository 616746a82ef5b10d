use Rattle.std.proofs.Common.{◌≡◌, ◌++◌, map, take}
use Rattle.answer_runs.specs.declared.range.Range.{Range}
use Rattle.addr_rewrite.proofs.table_list.add_ranges.Given as goal

abbrev pub invariant-loop-range : goal.invariant-loop-range
invariant-loop-range l =
    l.ranges.items ≡ l.fn.ranges.items ++ map (λ (r : Range). record { range = r; unit = l.table.unit }) (take l.range-index l.range-items)
