use Rattle.std.proofs.Common.{length}
use Rattle.addr_map.proofs.column.+rank_below.Given as goal

abbrev pub decreases-rank_below : goal.decreases-rank_below
decreases-rank_below l = length l.levels.now
