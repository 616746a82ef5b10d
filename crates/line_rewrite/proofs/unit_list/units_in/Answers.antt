use Rattle.std.proofs.Common.{◌∙◌, ◌≤◌, sym, ap, subst}
use Rattle.rb_bytes.specs.declared.fault.FaultKind.TheVariants.{LineFault}
use Rattle.rb_bytes.specs.Fault.{fault_at}
use Rattle.table_core.specs.DebugUnits.{Walked}
use Rattle.line_rewrite.specs.Entries.{Strings}
use Rattle.line_rewrite.specs.KeptEntries.{texts_strings}
use Rattle.line_rewrite.specs.LineUnits.{unit_in}
use Rattle.line_rewrite.specs.UnitLists.{kept_size, walked_size}
use Rattle.line_rewrite.proofs.LineFaults.{units_nothing, units_more, units_all, units_fault}
use Rattle.line_rewrite.proofs.unit_list.units_in.Goals as goal

pub loop-unit-init : goal.loop-unit-init
loop-unit-init c =
    units_nothing (texts_strings c.args.texts.now) c.new-units.result.items c.new-units.ensures.items

pub returns-in-Err-Malformed : goal.returns-in-Err-Malformed
returns-in-Err-Malformed c =
    units_fault (texts_strings c.args.texts.now) c.args.walked.now c.loop-unit.units.items c.loop-unit.unit-index c.unit-item.result
    c.in-Err-Malformed.field-0
    c.at.result c.loop-unit-test.true c.loop-unit.invariant c.unit-item.is c.in-Err-Malformed.field-0-is
    c.in-Err-Malformed.ensures.malformed
    (c.at.ensures ∙ ap (λ (w : Walked). fault_at LineFault w.place) c.unit.view_is)

pub loop-unit-preserved : goal.loop-unit-preserved
loop-unit-preserved c =
    let strings : Strings = texts_strings c.args.texts.now in
    units_more strings c.args.walked.now c.loop-unit.units.items c.push.new.self.items c.in-Ok.unit c.loop-unit.unit-index
    c.unit-item.result c.loop-unit-test.true
    c.loop-unit.invariant (ap (unit_in strings) (sym c.unit-item.is) ∙ c.in-Ok.ensures.read) c.in-Ok.ensures.tables
    (subst (λ (w : Walked). kept_size c.in-Ok.unit ≤ walked_size w) c.unit-item.is c.in-Ok.ensures.size) c.in_ok-push-in-Ok.ensures.items

pub returns : goal.returns
returns c =
    units_all (texts_strings c.args.texts.now) c.args.walked.now c.loop-unit.units.items c.loop-unit.unit-index c.loop-unit-test.false
    c.loop-unit.invariant
