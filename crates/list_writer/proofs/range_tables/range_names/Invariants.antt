use Rattle.std.proofs.Common.{◌≡◌, map, take}
use Rattle.list_writer.specs.WrittenRanges.{named_by, number_in}
use Rattle.list_writer.proofs.range_tables.range_names.Given as goal

abbrev pub invariant-loop-entry : goal.invariant-loop-entry
invariant-loop-entry l = l.named.items ≡ map (named_by (number_in l.map l.groups l.known)) (take l.entry-index l.ranged)
