use Rattle.std.proofs.Common.{◌≡◌, drop}
use Rattle.frame_rewrite.proofs.same.same_rules.Given as goal

abbrev pub invariant-loop-i : goal.invariant-loop-i
invariant-loop-i l = drop l.i l.x ≡ drop l.i l.y → l.x ≡ l.y
