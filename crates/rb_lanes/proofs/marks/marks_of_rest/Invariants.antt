use Rattle.std.proofs.Common.{◌≡◌, ◌≤◌, length, drop}
use Rattle.rb_lanes.specs.Marks.{marks_of}
use Rattle.rb_lanes.proofs.marks.marks_of_rest.Given as goal

-- `marks` has the marks of the halfwords from index i on.
abbrev pub invariant-loop-i : goal.invariant-loop-i
invariant-loop-i l = record {
  within : l.i ≤ length l.halves;
  marks : l.marks ≡ marks_of (drop l.i l.halves);
}

abbrev pub decreases-loop-i : goal.decreases-loop-i
decreases-loop-i l = l.i
