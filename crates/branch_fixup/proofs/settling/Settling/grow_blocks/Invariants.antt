use Rattle.std.proofs.Common.{◌≡◌, ◌<◌, length, All}
use Rattle.std.specs.Prelude.{MatchBool, map, sum_by}
use Rattle.branch_fixup.specs.Endings.{end_of_form}
use Rattle.branch_fixup.specs.Growth.{left_of}
use Rattle.branch_fixup.specs.Ways.{AreSettling}
use Rattle.branch_fixup.proofs.settling.Settling.grow_blocks.Given as goal

abbrev pub invariant-loop-k : goal.invariant-loop-k
invariant-loop-k l = record {
  settling : AreSettling l.self.block_ends.now l.self.places.now l.forms l.more;
  same : map end_of_form l.forms ≡ map end_of_form l.initial.forms;
  fewer : MatchBool l.grew (sum_by left_of l.forms < sum_by left_of l.initial.forms) (l.forms ≡ l.initial.forms);
  listed : All (λ k. k < length l.self.block_ends.now) l.short.items;
}
