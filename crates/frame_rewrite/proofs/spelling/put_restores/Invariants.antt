use Rattle.std.proofs.Common.{◌≡◌, ◌++◌, drop, true}
use Rattle.frame_rewrite.specs.SpelledFrames.{are_low, spelled_restores, gone_rules}
use Rattle.frame_rewrite.proofs.spelling.put_restores.Given as goal

abbrev pub invariant-loop-register : goal.invariant-loop-register
invariant-loop-register l = record {
  spelled : l.out.items ++ spelled_restores (gone_rules (drop l.register-index l.old) l.new)
      ≡ l.fn.out.items ++ spelled_restores (gone_rules l.old l.new);
  low : are_low (drop l.register-index l.old) ≡ true;
}
