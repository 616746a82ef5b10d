use Rattle.std.proofs.Common.{◌≤◌, ◌+◌, ◌-◌, ◌++◌, ℕ, List, All, length}
use Rattle.rv_reloc.specs.EntryRuns.{entries, all_entries, IsWholeRun, AreWholeRuns}
use Rattle.rv_reloc.specs.Thinned.{IsThinned}
use Rattle.rv_reloc.proofs.merged_runs.merged.Given as goal

abbrev pub invariant-loop-step : goal.invariant-loop-step
invariant-loop-step l = record {
  thinned : (file : List ℕ) → IsThinned (entries file l.fn.left.items ++ entries file l.fn.right.items)
      (all_entries file l.done.items l.left.items l.right.items);
  whole : (size : ℕ) → All (IsWholeRun size) l.fn.left.items → All (IsWholeRun size) l.fn.right.items →
      AreWholeRuns size l.done.items l.left.items l.right.items;
  fewer : length l.left.items + length l.right.items ≤ length l.fn.left.items + length l.fn.right.items - l.step;
}
