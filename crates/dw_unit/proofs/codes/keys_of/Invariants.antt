use Rattle.std.proofs.Common.{◌≡◌, ◌<◌, ℕ, length, get_or}
use Rattle.dw_unit.specs.Codes.{key}
use Rattle.dw_unit.specs.ToldLists.{codes_of}
use Rattle.dw_unit.proofs.codes.keys_of.Given as goal

abbrev pub invariant-loop-index : goal.invariant-loop-index
invariant-loop-index l = record {
  count : length l.keys.items ≡ l.index;
  each : (k : ℕ) → k < l.index → get_or l.keys.items k 0 ≡ key (get_or (codes_of l.list) k 0) k;
}
