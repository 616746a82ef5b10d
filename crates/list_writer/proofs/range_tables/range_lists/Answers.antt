use Rattle.list_writer.proofs.NumberedRanges.{lists_named}
use Rattle.list_writer.proofs.range_tables.range_lists.Goals as goal

pub returns : goal.returns
returns c =
    lists_named c.args.map.now c.args.groups.now c.args.ranged.now c.in_ok-numbered.numbered.lists.items c.in_ok-numbered.numbered.known
    c.in_ok-named.named.items c.in_ok-numbered.ensures c.in_ok-named.ensures
