use Rattle.std.proofs.Common.{◌≡◌, ◌<◌, ℕ, length, slice_index}
use Rattle.branch_fixup.proofs.lookup.places_in.Given as goal

abbrev pub invariant-loop-k : goal.invariant-loop-k
invariant-loop-k l = (length l.places.items ≡ length l.order) × ((j : ℕ) → j < l.k →
    slice_index l.places.items (slice_index l.order j) ≡ j)
