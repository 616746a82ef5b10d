use Rattle.std.proofs.Common.{take}
use Rattle.dw_unit.specs.UnitFaults.{AreNoted}
use Rattle.addr_rewrite.proofs.unit_faults.noted.Given as goal

abbrev pub invariant-loop-number : goal.invariant-loop-number
invariant-loop-number l = AreNoted l.reader.abbrevs l.reader.addr (take l.number l.reader.units) l.faults
