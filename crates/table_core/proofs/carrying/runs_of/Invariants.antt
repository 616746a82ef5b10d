use Rattle.std.proofs.Common.{◌≡◌, ◌≤◌, ℕ, None}
use Rattle.answer_runs.specs.LastRuns.{IsAnswer}
use Rattle.answer_runs.specs.AnswerRuns.{said_runs}
use Rattle.answer_runs.proofs.NewCode.{AreMade}
use Rattle.table_core.proofs.carrying.runs_of.Given as goal

abbrev pub invariant-loop-i : goal.invariant-loop-i
invariant-loop-i g l = record {
  made : AreMade (g.T.ByAddress.says l.table) l.map l.i (said_runs g.T.ByAddress.said l.runs.items);
  known : (x : ℕ) → l.known.from ≤ x → x ≤ l.known.last →
      IsAnswer (g.T.ByAddress.says l.table x) (said_runs g.T.ByAddress.said l.runs.items);
  none : (x : ℕ) → l.known.none_from ≤ x → x ≤ l.known.none_last → g.T.ByAddress.says l.table x ≡ None;
  near : g.T.ByAddress.is_near l.table l.near;
}
