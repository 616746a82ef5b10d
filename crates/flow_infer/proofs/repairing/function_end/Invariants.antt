use Rattle.std.proofs.Common.{◌≡◌, ◌<◌, ◌≤◌, ℕ}
use Rattle.rv_code.specs.layout.BlockOrders.{func_of_block}
use Rattle.flow_infer.proofs.repairing.function_end.Given as goal

abbrev pub invariant-loop-i : goal.invariant-loop-i
invariant-loop-i l = (k : ℕ) → l.first ≤ k → k < l.i → func_of_block l.blocks k ≡ func_of_block l.blocks l.first
