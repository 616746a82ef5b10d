use Rattle.std.proofs.Common.{take}
use Rattle.addr_rewrite.specs.ArangesReading.{AreTables}
use Rattle.addr_rewrite.proofs.table_list.read_tables.Given as goal

abbrev pub invariant-loop-table : goal.invariant-loop-table
invariant-loop-table l = AreTables (take l.table-index l.tables) l.read
