use Rattle.std.proofs.Common.{◌≡◌, ◌<◌, ◌≤◌, ◌-◌, ℕ, length, get_or}
use Rattle.rv_code.specs.declared.placed.Block.{Block}
use Rattle.block_layout.proofs.functions.end_of.Given as goal

abbrev pub invariant-loop-end : goal.invariant-loop-end
invariant-loop-end l =
    (l.start ≤ l.end) × (l.end ≤ length l.blocks)
    × ((k : ℕ) (d : Block) → l.start ≤ k → k < l.end → (get_or l.blocks k d).func ≡ l.func)

abbrev pub decreases-loop-end : goal.decreases-loop-end
decreases-loop-end l = length l.blocks - l.end
