use Rattle.std.proofs.Common.{◌≡◌, ◌++◌, drop, take}
use Rattle.std.specs.Prelude.{All}
use Rattle.frame_rewrite.specs.SpelledFrames.{spelled_rules, other_rules}
use Rattle.frame_rewrite.proofs.EntrySteps.{EntryFits}
use Rattle.frame_rewrite.proofs.spelling.put_rules.Given as goal

abbrev pub invariant-loop-register : goal.invariant-loop-register
invariant-loop-register l = record {
  spelled : l.out.items ++ spelled_rules (other_rules l.old (drop l.register-index l.new))
      ≡ l.fn.out.items ++ spelled_rules (other_rules l.old l.new);
  fits : All EntryFits (take l.register-index l.new);
}
