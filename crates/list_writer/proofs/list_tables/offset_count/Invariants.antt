use Rattle.std.proofs.Common.{take}
use Rattle.list_writer.specs.WrittenTables.{IsCountOf}
use Rattle.list_writer.proofs.list_tables.offset_count.Given as goal

abbrev pub invariant-loop-unit : goal.invariant-loop-unit
invariant-loop-unit l = IsCountOf (take l.unit-index l.units) l.count
