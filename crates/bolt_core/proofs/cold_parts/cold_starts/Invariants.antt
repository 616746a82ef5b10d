use Rattle.std.proofs.Common.{◌≡◌}
use Rattle.std.specs.List.{filter_map, range_with_len}
use Rattle.rv_code.specs.layout.BlockOrders.{list_of}
use Rattle.bolt_core.specs.ProfileOrder.{cold_start}
use Rattle.bolt_core.proofs.cold_parts.cold_starts.Given as goal

-- the starts for the functions so far
abbrev pub invariant-loop-f : goal.invariant-loop-f
invariant-loop-f l =
    l.starts.items
    ≡ filter_map (λ f. cold_start l.funcs l.blocks (list_of l.parts.hot.items f) (list_of l.parts.cold.items f))
    (range_with_len 0 l.f)
