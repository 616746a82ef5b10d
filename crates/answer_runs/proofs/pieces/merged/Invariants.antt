use Rattle.std.proofs.Common.{◌+◌, ◌-◌, length}
use Rattle.answer_runs.proofs.MergedPieces.{AreMerged}
use Rattle.answer_runs.proofs.pieces.merged.Given as goal

abbrev pub invariant-loop-i : goal.invariant-loop-i
invariant-loop-i l = AreMerged l.front l.back l.pieces.items l.i l.j l.start l.in_front l.in_back

abbrev pub decreases-loop-i : goal.decreases-loop-i
decreases-loop-i l = length l.front + length l.back - (l.i + l.j)
