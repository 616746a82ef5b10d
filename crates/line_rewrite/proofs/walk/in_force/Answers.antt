use Rattle.std.proofs.Common.{◌∙◌, List, ap}
use Rattle.line_rewrite.specs.declared.registers.Registers.{Registers}
use Rattle.line_rewrite.specs.Walks.{latest}
use Rattle.line_rewrite.proofs.InForce.{latest_is}
use Rattle.line_rewrite.proofs.NearRows.{slice_done, slice_past, slice_more}
use Rattle.line_rewrite.proofs.walk.in_force.Goals as goal

pub loop-row-init : goal.loop-row-init
loop-row-init c = ap (λ (l : List Registers). latest l c.args.a c.args.rows.now) c.new-found.ensures.items

pub returns-then-row-a : goal.returns-then-row-a
returns-then-row-a c =
    slice_past c.loop-row.found.items c.args.a c.loop-row.row-index c.args.rows.now _ c.loop-row.invariant _ c.loop-row-test.true
    c.if-row-a.true
    ∙ latest_is 0 c.args.a c.args.rows.now c.requires

pub loop-row-preserved : goal.loop-row-preserved
loop-row-preserved c =
    slice_more c.loop-row.found.items c.args.a c.loop-row.row-index c.args.rows.now _ c.loop-row.invariant _ c.loop-row-test.true
    c.join.new.found.items c.if-row-a.false c.in_ok-join.ensures

pub returns : goal.returns
returns c =
    slice_done c.loop-row.found.items c.args.a c.loop-row.row-index c.args.rows.now _ c.loop-row.invariant c.loop-row-test.false
    ∙ latest_is 0 c.args.a c.args.rows.now c.requires
