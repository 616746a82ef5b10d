use Rattle.std.proofs.Common.{◌≡◌, drop, length}
use Rattle.line_rewrite.specs.WrittenRuns.{with_runs, begun, cut_runs, AllRowsFit}
use Rattle.line_rewrite.specs.NearRows.{AreNear}
use Rattle.line_rewrite.proofs.program_list.programs_of.Given as goal

abbrev pub invariant-loop-run : goal.invariant-loop-run
invariant-loop-run l = record {
  written : with_runs l.units l.map l.programs.items (cut_runs l.rest (drop l.run-index l.runs))
      ≡ with_runs l.units l.map (begun l.units) (cut_runs l.cuts l.runs);
  rows : AllRowsFit l.units l.map (cut_runs l.rest (drop l.run-index l.runs)) → AllRowsFit l.units l.map (cut_runs l.cuts l.runs);
  near : AreNear l.units l.near;
  each : length l.programs.items ≡ length l.units;
}
