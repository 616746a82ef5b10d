use Rattle.std.proofs.Common.{◌≡◌, ◌*◌, drop}
use Rattle.rb_lanes.proofs.Masks.{AreMarks}
use Rattle.rb_lanes.proofs.marks.length_marks.Given as goal

-- The groups done so far have the marks of their halfwords.
abbrev pub invariant-loop-marks : goal.invariant-loop-marks
invariant-loop-marks l = record {
  rest : l.rest ≡ drop (64 * l.marks-index) l.halves;
  groups : AreMarks l.out l.halves l.marks-index;
}
