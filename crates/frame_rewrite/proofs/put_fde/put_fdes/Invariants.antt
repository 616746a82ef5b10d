use Rattle.std.proofs.Common.{◌≡◌, ◌≤◌, ◌*◌, ◌-◌, ◌++◌, length, ◌^◌}
use Rattle.std.specs.Prelude.{All}
use Rattle.answer_runs.specs.AnswerRuns.{IsWithin}
use Rattle.frame_rewrite.specs.SpelledFrames.{spelled_entries, fde_entries}
use Rattle.frame_rewrite.specs.SpelledFits.{RunAscends, WritesAll}
use Rattle.frame_rewrite.proofs.TableBack.{Before}
use Rattle.frame_rewrite.proofs.put_fde.put_fdes.Given as goal

abbrev pub invariant-loop-count : goal.invariant-loop-count
invariant-loop-count l = record {
  written : l.out.items ++ spelled_entries (fde_entries l.form l.map l.keys (length l.runs - l.count)
      (length l.out.items) l.rest)
      ≡ l.fn.out.items ++ spelled_entries (fde_entries l.form l.map l.keys (length l.runs) (length l.fn.out.items)
      l.runs);
  writes : WritesAll l.form l.map l.keys (length l.runs - l.count) (length l.out.items) l.rest
      → WritesAll l.form l.map l.keys (length l.runs) (length l.fn.out.items) l.runs;
  within : IsWithin 0 l.rest (2 ^ 64 - 1);
  before : All (Before l.map) l.rest;
  ascend : All RunAscends l.rest;
  behind : 32 * length l.keys ≤ length l.out.items;
}
