use Rattle.std.proofs.Common.{length}
use Rattle.addr_map.proofs.column.+levels_over.Given as goal

abbrev pub decreases-levels_over : goal.decreases-levels_over
decreases-levels_over l = length l.column.now
