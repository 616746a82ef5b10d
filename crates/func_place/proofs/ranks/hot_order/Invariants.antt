use Rattle.std.proofs.Common.{◌≡◌, ◌<◌, length}
use Rattle.std.specs.Prelude.{All, filter, nat_lt, slice_index}
use Rattle.std.specs.List.{range_with_len}
use Rattle.func_place.proofs.ranks.hot_order.Given as goal

abbrev pub invariant-loop-unit : goal.invariant-loop-unit
invariant-loop-unit l = (l.taken.items ≡ filter (λ u. nat_lt 0 (slice_index l.heats u)) (range_with_len 0 l.unit))
    × All (λ u. u < length l.heats) l.taken.items
    × All (λ u. 0 < slice_index l.heats u) l.taken.items
