use Rattle.std.proofs.Common.{◌≡◌, ℕ, ◌<◌, length, get_or}
use Rattle.addr_map.specs.internal.Orders.{IsHolder}
use Rattle.addr_map.proofs.Owners.{IsHolderBefore}
use Rattle.addr_map.proofs.new_order.holders_of.Given as goal

abbrev pub invariant-loop-i : goal.invariant-loop-i
invariant-loop-i l = record {
  count : length l.holders.items ≡ l.i;
  held : (k : ℕ) → k < l.i → IsHolder l.lens k (get_or l.holders.items k 0);
  before : IsHolderBefore l.lens l.i l.holder;
}
