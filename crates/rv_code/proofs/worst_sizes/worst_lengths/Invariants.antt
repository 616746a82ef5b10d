use Rattle.std.proofs.Common.{◌≡◌, ◌≤◌, ◌*◌, take}
use Rattle.std.specs.Prelude.{sum_by}
use Rattle.rv_code.specs.layout.WorstSizes.{worst_length}
use Rattle.rv_code.proofs.worst_sizes.worst_lengths.Given as goal

abbrev pub invariant-loop-inst : goal.invariant-loop-inst
invariant-loop-inst l = (l.size ≡ sum_by worst_length (take l.inst-index l.insts)) × (l.size ≤ 255 * l.inst-index)
