use Rattle.std.proofs.Common.{◌≡◌, ◌<◌, ◌++◌, ◌==◌, length}
use Rattle.std.specs.Prelude.{All, filter, slice_index}
use Rattle.std.specs.List.{range_with_len}
use Rattle.func_place.proofs.unit_order.put_cold.Given as goal

abbrev pub invariant-loop-unit : goal.invariant-loop-unit
invariant-loop-unit l =
    (l.line.items ≡ l.initial.line.items ++ filter (λ u. slice_index l.heats u == 0) (range_with_len 0 l.unit))
    × (All (λ u. u < length l.heats) l.initial.line.items → All (λ u. u < length l.heats) l.line.items)
