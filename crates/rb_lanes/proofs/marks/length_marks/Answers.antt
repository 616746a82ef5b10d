use Rattle.std.proofs.Common.{◌<◌, ◌∙◌, ap, length, arith}
use Rattle.rb_lanes.specs.Marks.{marks_of}
use Rattle.rb_lanes.proofs.Masks.{front_of, back_of, marks_more, marks_all}
use Rattle.rb_lanes.proofs.marks.length_marks.Goals as goal

pub loop-marks-preserved : goal.loop-marks-preserved
loop-marks-preserved c =
    let i = c.loop-marks.marks-index in
    let halves = c.args.halves.now in
    let rest = c.loop-marks.invariant.rest in
    let front = front_of i _ halves _ _ rest c.min.ensures c.split_at.ensures.front in
    let lt : i < length c.loop-marks.out = omega arith in
    record {
      rest = back_of i _ halves _ _ rest c.min.ensures c.split_at.ensures.back;
      groups = marks_more c.loop-marks.out halves i c.marks_of_group.result lt c.loop-marks.invariant.groups
          (c.marks_of_group.ensures ∙ ap marks_of front);
    }

pub returns : goal.returns
returns c =
    marks_all c.loop-marks.out c.args.halves.now (omega (arith, c.requires))
    (λ k lt. c.loop-marks.invariant.groups k (omega arith))
