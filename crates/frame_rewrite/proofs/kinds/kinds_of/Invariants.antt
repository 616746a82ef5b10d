use Rattle.std.proofs.Common.{List}
use Rattle.std.specs.Prelude.{All, Contains}
use Rattle.answer_runs.specs.declared.run.Run.{Run}
use Rattle.frame_rewrite.specs.declared.cie_key.CieKey.{CieKey}
use Rattle.frame_rewrite.specs.FrameAnswers.{FrameAnswer}
use Rattle.frame_rewrite.specs.SpelledFits.{KeyFits}
use Rattle.frame_rewrite.specs.SpelledFrames.{key_of}
use Rattle.frame_rewrite.proofs.kinds.kinds_of.Given as goal

abbrev pub invariant-loop-run : goal.invariant-loop-run
invariant-loop-run l = record {
  fits : All KeyFits l.kinds.keys;
  needed : (among : List CieKey) → All (λ (r : Run FrameAnswer). Contains among (key_of l.map r.answer)) l.runs
      → All (Contains among) l.kinds.keys;
}
