use Rattle.std.proofs.Common.{◌≡◌, ◌≤◌, ◌-◌, drop, length}
use Rattle.line_rewrite.specs.WrittenRuns.{with_runs, cut_run, run_over, AllRowsFit}
use Rattle.line_rewrite.specs.NearRows.{AreNear}
use Rattle.line_rewrite.proofs.program_list.add_run.Given as goal

abbrev pub invariant-loop-cut : goal.invariant-loop-cut
invariant-loop-cut l = record {
  low : l.start ≤ l.end;
  written : with_runs l.units l.map l.programs (cut_run (drop l.cut-index l.cuts) (run_over l.start (l.end - l.start) l.run.answer))
      ≡ with_runs l.units l.map l.fn.programs (cut_run l.cuts l.run);
  rows : AllRowsFit l.units l.map (cut_run (drop l.cut-index l.cuts) (run_over l.start (l.end - l.start) l.run.answer)) →
      AllRowsFit l.units l.map (cut_run l.cuts l.run);
  near : AreNear l.units l.near;
  each : length l.programs ≡ length l.units;
}
