use Rattle.std.proofs.Common.{◌≡◌, ◌++◌, ◌∷◌, drop, take, get_or, true, option_map}
use Rattle.std.specs.Prelude.{All}
use Rattle.answer_runs.specs.declared.run.Run.{Run}
use Rattle.cfi_rows.specs.RuleEntries.{Ascend}
use Rattle.frame_rewrite.specs.FrameAnswers.{FrameAnswer}
use Rattle.frame_rewrite.specs.SpelledFrames.{spelled_rows, first_known, known_of, are_low}
use Rattle.frame_rewrite.specs.SpelledFits.{RowFits, Near, IsAbove}
use Rattle.frame_rewrite.proofs.put_fde.put_rows.Given as goal

abbrev pub invariant-loop-run : goal.invariant-loop-run
invariant-loop-run l = record {
  written : l.out.items ++ spelled_rows (known_of l.signal (option_map (λ r. r.now) l.known)) l.at l.last (drop l.run-index l.more)
      ≡ l.fn.out.items ++ spelled_rows (first_known l.signal) l.start l.first.answer.row l.more;
  last : l.last ≡ (get_or (l.first ∷ l.more) l.run-index l.first).answer.row;
  low : are_low (known_of l.signal (option_map (λ r. r.now) l.known)).rules ≡ true;
  ascend : Ascend 0 (known_of l.signal (option_map (λ r. r.now) l.known)).rules;
  above : IsAbove l.at (drop l.run-index l.more);
  near : Near l.at (drop l.run-index l.more) → Near l.start l.more;
  fits : All (λ (r : Run FrameAnswer). RowFits r.answer.row) (take l.run-index (l.first ∷ l.more));
}
