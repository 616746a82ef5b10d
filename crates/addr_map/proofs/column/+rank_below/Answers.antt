use Rattle.addr_map.proofs.Columns.{non_decreasing, group_count}
use Rattle.addr_map.proofs.column.+rank_below.Goals as goal

pub rank_in_group-requires-clause-groups : goal.rank_in_group-requires-clause-groups
rank_in_group-requires-clause-groups t c =
    let levels = rw c.in-Some.ensures.cases.0 at c.requires.levels in
    group_count c.deref.result.now c.args.column.now c.args.x c.rank_below.result (rw c.deref.ensures.value levels.0)
    c.requires.ascending c.rank_below.ensures

pub rank_among-requires : goal.rank_among-requires
rank_among-requires t c = non_decreasing c.args.column.now c.requires.ascending
