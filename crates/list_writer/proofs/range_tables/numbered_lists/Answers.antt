use Rattle.std.proofs.lemmas.List.{take_more}
use Rattle.list_writer.proofs.NumberedRanges.{none_numbered, one_numbered}
use Rattle.list_writer.proofs.range_tables.numbered_lists.Goals as goal

pub loop-entry-init : goal.loop-entry-init
loop-entry-init c = none_numbered c.args.map.now c.args.groups.now c.new.result.items c.new-2.result c.new-2.ensures.empty

pub loop-entry-preserved : goal.loop-entry-preserved
loop-entry-preserved c =
    one_numbered c.args.map.now c.args.groups.now _ _ _ c.loop-entry.numbered.lists.items c.put_entry_list.new.numbered.lists.items
    c.loop-entry.numbered.known c.put_entry_list.new.numbered.known
    (take_more c.args.ranged.now c.loop-entry.entry-index _ c.loop-entry-test.true) c.loop-entry.invariant c.in_ok-put_entry_list.ensures
