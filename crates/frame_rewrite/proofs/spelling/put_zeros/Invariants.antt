use Rattle.std.proofs.Common.{◌≡◌, ◌++◌, ◌-◌}
use Rattle.frame_rewrite.specs.SpelledFrames.{zeros}
use Rattle.frame_rewrite.proofs.spelling.put_zeros.Given as goal

abbrev pub invariant-loop-i : goal.invariant-loop-i
invariant-loop-i l = l.out.items ++ zeros (l.count - l.i) ≡ l.fn.out.items ++ zeros l.count
