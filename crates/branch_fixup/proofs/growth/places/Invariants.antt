use Rattle.std.proofs.Common.{◌≡◌, ◌+◌, ◌≤◌, length, get_or, ℕ}
use Rattle.branch_fixup.specs.Growth.{block_offset}
use Rattle.branch_fixup.proofs.growth.places.Given as goal

abbrev pub invariant-loop-k : goal.invariant-loop-k
invariant-loop-k l = (length l.places.items ≡ l.k + 1)
    × (l.at ≡ block_offset l.block_ends l.forms l.k)
    × ((i : ℕ) → i ≤ l.k → get_or l.places.items i 0 ≡ block_offset l.block_ends l.forms i)
