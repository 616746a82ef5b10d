use Rattle.std.proofs.Common.{◌≡◌, ℕ, ◌*◌, ◌%◌, ◌<◌, length, slice_index}
use Rattle.code_starts.proofs.halves.push_halves.Given as goal

abbrev pub invariant-loop-index : goal.invariant-loop-index
invariant-loop-index l =
    (length l.halves.items ≡ l.index)
    × ((i : ℕ) → i < l.index → slice_index l.halves.items i % 256 ≡ slice_index l.bytes (2 * i))
