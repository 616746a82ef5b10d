use Rattle.std.proofs.Common.{take}
use Rattle.list_writer.specs.WrittenRanges.{AreNumberedLists}
use Rattle.list_writer.proofs.range_tables.numbered_lists.Given as goal

abbrev pub invariant-loop-entry : goal.invariant-loop-entry
invariant-loop-entry l = AreNumberedLists l.map l.groups (take l.entry-index l.ranged) l.numbered.lists.items l.numbered.known
