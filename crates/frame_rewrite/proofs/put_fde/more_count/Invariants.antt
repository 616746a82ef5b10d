use Rattle.std.proofs.Common.{◌≡◌, ◌+◌, drop}
use Rattle.frame_rewrite.specs.SpelledFrames.{more_count, count_on}
use Rattle.frame_rewrite.proofs.put_fde.more_count.Given as goal

abbrev pub invariant-loop-i : goal.invariant-loop-i
invariant-loop-i l = more_count l.first l.others ≡ l.i + count_on l.end l.first (drop l.i l.others)
