use Rattle.std.proofs.Common.{take}
use Rattle.dw_unit.specs.UnitReadings.{AreReadings}
use Rattle.dw_unit.proofs.read_unit.read_units.Given as goal

abbrev pub invariant-loop-unit : goal.invariant-loop-unit
invariant-loop-unit l = AreReadings l.fn.tables.section.now l.fn.addr (take l.unit-index l.units) l.readings
