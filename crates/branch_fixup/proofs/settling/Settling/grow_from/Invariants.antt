use Rattle.std.proofs.Common.{◌≡◌, ◌<◌, ◌≤◌, length, All}
use Rattle.std.specs.Prelude.{map, sum_by}
use Rattle.branch_fixup.specs.Endings.{end_of_form}
use Rattle.branch_fixup.specs.Growth.{left_of}
use Rattle.branch_fixup.specs.Ways.{AreSettling}
use Rattle.branch_fixup.proofs.settling.Settling.grow_from.Given as goal

abbrev pub invariant-loop-short : goal.invariant-loop-short
invariant-loop-short l = record {
  settling : AreSettling l.self.block_ends.now l.self.places.now l.forms l.more;
  same : map end_of_form l.forms ≡ map end_of_form l.initial.forms;
  fewer : sum_by left_of l.forms ≤ sum_by left_of l.initial.forms;
  listed : All (λ k. k < length l.self.block_ends.now) l.blocks.items;
}

abbrev pub decreases-loop-short : goal.decreases-loop-short
decreases-loop-short l = sum_by left_of l.forms
