use Rattle.std.proofs.Common.{◌≡◌, ◌+◌, ◌*◌, ◌-◌, ◌<◌, ℕ, length, get_or}
use Rattle.addr_map.proofs.column.firsts_of.Given as goal

abbrev pub invariant-loop-at : goal.invariant-loop-at
invariant-loop-at l = record {
  at : l.at ≡ 64 * length l.firsts.items;
  within : l.at < length l.column + 64;
  each : (k : ℕ) → k < length l.firsts.items → get_or l.firsts.items k 0 ≡ get_or l.column (64 * k) 0;
}

abbrev pub decreases-loop-at : goal.decreases-loop-at
decreases-loop-at l = length l.column + 64 - l.at
