use Rattle.std.proofs.Common.{ℕ, ◌≤◌, ◌<◌, ◌-◌}
use Rattle.move_law.specs.Rewrite.{Rewrite}
use Rattle.map_check.specs.FirstFalse.{IsKept}
use Rattle.map_check.specs.internal.KeptBytes.{AreBytesOf, AreChangesOf}
use Rattle.map_check.proofs.bytes.lowest_in.Given as goal

abbrev pub invariant-loop-a : goal.invariant-loop-a
invariant-loop-a l = record {
  from : l.start ≤ l.a;
  kept : (r : Rewrite) → AreBytesOf r l.input l.output → AreChangesOf r l.changes → (q : ℕ) → l.start ≤ q → q < l.a → IsKept r q;
}

abbrev pub decreases-loop-a : goal.decreases-loop-a
decreases-loop-a l = l.end - l.a
