use Rattle.std.proofs.Common.{◌∙◌}
use Rattle.line_rewrite.proofs.UnitSizes.{small_here, small_behind, units_next, programs_end, units_end}
use Rattle.line_rewrite.proofs.unit_writer.put_units.Goals as goal

pub returns-in-None : goal.returns-in-None
returns-in-None c = programs_end _ c.loop-unit.rest.now c.loop-unit.out.items _ c.in-None.ensures.cases c.loop-unit.invariant.written

pub put_unit-requires : goal.put_unit-requires
put_unit-requires c =
    small_here c.args.units.now c.loop-unit.rest.now c.in-Some.behind.now c.loop-unit.unit-index c.unit-item.result c.in-Some.program.now
    c.bytes.result.now
    c.loop-unit-test.true c.unit-item.is c.in-Some.ensures.cases.0
    (c.bytes.ensures ∙ c.in_ok-close-in-Some.ensures) c.loop-unit.invariant.small

pub loop-unit-preserved : goal.loop-unit-preserved
loop-unit-preserved c = record {
  written = units_next c.args.units.now c.loop-unit.rest.now c.in-Some.behind.now c.loop-unit.unit-index c.unit-item.result
      c.in-Some.program.now c.bytes.result.now
      c.loop-unit-test.true c.unit-item.is c.in-Some.ensures.cases.0
      (c.bytes.ensures ∙ c.in_ok-close-in-Some.ensures) c.loop-unit.out.items c.put_unit.new.out.items _
      c.in_ok-put_unit-in-Some.ensures c.loop-unit.invariant.written;
  small = small_behind c.args.units.now c.loop-unit.rest.now c.in-Some.behind.now c.loop-unit.unit-index c.unit-item.result
      c.in-Some.program.now c.bytes.result.now
      c.loop-unit-test.true c.unit-item.is c.in-Some.ensures.cases.0
      (c.bytes.ensures ∙ c.in_ok-close-in-Some.ensures) c.loop-unit.invariant.small;
}

pub returns : goal.returns
returns c = units_end c.args.units.now c.loop-unit.unit-index c.loop-unit.rest.now c.loop-unit.out.items _ c.loop-unit-test.false
    c.loop-unit.invariant.written
