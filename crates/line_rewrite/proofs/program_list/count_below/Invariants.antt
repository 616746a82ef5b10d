use Rattle.std.proofs.Common.{◌≡◌, ◌+◌, drop}
use Rattle.line_rewrite.specs.WrittenRuns.{count_below}
use Rattle.line_rewrite.proofs.program_list.count_below.Given as goal

abbrev pub invariant-loop-i : goal.invariant-loop-i
invariant-loop-i l = l.i + count_below l.bound (drop l.i l.cuts) ≡ count_below l.bound l.cuts
