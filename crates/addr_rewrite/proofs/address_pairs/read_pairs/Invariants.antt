use Rattle.std.proofs.Common.{◌≡◌, length}
use Rattle.addr_rewrite.proofs.PairSteps.{all_pairs, with_pairs}
use Rattle.addr_rewrite.proofs.address_pairs.read_pairs.Given as goal

abbrev pub invariant-pairs : goal.invariant-pairs
invariant-pairs l = with_pairs l.ranges.items (all_pairs l.cursor.left) ≡ all_pairs l.fn.cursor.left

abbrev pub decreases-pairs : goal.decreases-pairs
decreases-pairs l = length l.cursor.left
