use Rattle.std.proofs.Common.{◌∙◌, ◌-◌, ◌+◌, ap, sym, length, List, ℕ}
use Rattle.line_rewrite.specs.LineAnswers.{LineSaid}
use Rattle.line_rewrite.specs.WrittenPrograms.{Begun}
use Rattle.line_rewrite.specs.WrittenRuns.{run_over}
use Rattle.line_rewrite.proofs.CutRuns.{cut_fits, cut_low, cut_written, last_fits, last_written, pass_fits, pass_written}
use Rattle.line_rewrite.proofs.UnitSizes.{placed_count}
use Rattle.line_rewrite.proofs.program_list.add_run.Goals.{then-is_inside+in_ok-add_stretch, else-is_inside}
use Rattle.line_rewrite.proofs.program_list.add_run.Goals as goal

pub loop-cut-preserved : goal.loop-cut-preserved
loop-cut-preserved c =
    let units = c.args.units.now in
    let spans = c.args.map.now in
    let cs : List ℕ = c.args.cuts.now in
    let i = c.loop-cut.cut-index in
    let start = c.loop-cut.start in
    let end = c.args.run.now.start + c.args.run.now.len in
    let said : LineSaid = c.args.run.now.answer in
    let inv = c.loop-cut.invariant in
    elim c.if-is_inside.branch [
      | then-is_inside+in_ok-add_stretch w ↦
          let inside = sym c.is_inside.ensures ∙ w.if-is_inside.true in
          let e = w.in_ok-add_stretch.ensures.written said in
          rw (w.near-is, w.programs-is, w.start-is) (record {
            low = cut_low units spans cs i _ c.loop-cut-test.true start end said inv.low inside;
            written = cut_written units spans cs i _ c.loop-cut-test.true start end said inv.low inside c.loop-cut.programs _ _ e
                inv.written;
            rows = cut_fits units spans cs i _ c.loop-cut-test.true start end said inv.low inside _ inv.rows
                (w.in_ok-add_stretch.ensures.rows said);
            near = w.in_ok-add_stretch.ensures.near;
            each = ap (λ (l : List Begun). length l) e ∙ placed_count c.loop-cut.programs _ ∙ inv.each;
          })
      | else-is_inside w ↦
          let outside = sym c.is_inside.ensures ∙ w.if-is_inside.false in
          rw (w.near-is, w.programs-is, w.start-is) (record {
            low = inv.low;
            written = pass_written units spans cs i _ c.loop-cut-test.true start end said inv.low outside c.loop-cut.programs _ inv.written;
            rows = pass_fits units spans cs i _ c.loop-cut-test.true start end said inv.low outside _ inv.rows;
            near = inv.near;
            each = inv.each;
          })
    ]

pub returns-clause-written : goal.returns-clause-written
returns-clause-written c =
    last_written c.args.units.now c.args.map.now c.args.cuts.now c.loop-cut.cut-index c.loop-cut-test.false
    (run_over c.loop-cut.start (c.args.run.now.start + c.args.run.now.len - c.loop-cut.start) c.args.run.now.answer)
    c.loop-cut.programs _ _ (c.in_ok-add_stretch-2.ensures.written c.args.run.now.answer) c.loop-cut.invariant.written

pub returns-clause-rows : goal.returns-clause-rows
returns-clause-rows c =
    last_fits c.args.units.now c.args.map.now c.args.cuts.now c.loop-cut.cut-index c.loop-cut-test.false
    (run_over c.loop-cut.start (c.args.run.now.start + c.args.run.now.len - c.loop-cut.start) c.args.run.now.answer)
    _ c.loop-cut.invariant.rows (c.in_ok-add_stretch-2.ensures.rows c.args.run.now.answer)
