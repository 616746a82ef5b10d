use Rattle.std.proofs.Common.{◌≡◌, ◌+◌, drop}
use Rattle.frame_rewrite.specs.SpelledFrames.{last_end}
use Rattle.frame_rewrite.proofs.put_fde.group_end.Given as goal

abbrev pub invariant-loop-run : goal.invariant-loop-run
invariant-loop-run l = last_end l.end (drop l.run-index l.more) ≡ last_end (l.first.start + l.first.len) l.more
