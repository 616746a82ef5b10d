use Rattle.std.proofs.Common.{◌-◌}
use Rattle.block_layout.proofs.Marking.{AreMarked}
use Rattle.block_layout.proofs.parts.marks.Given as goal

abbrev pub invariant-loop-block : goal.invariant-loop-block
invariant-loop-block l = AreMarked l.hot l.block-index l.start (l.end - l.start) l.marks.items
