use Rattle.std.proofs.Common.{ℕ, take}
use Rattle.dw_lists.specs.declared.list_kind.ListKind.{ListKind}
use Rattle.list_writer.specs.WrittenTables.{AreInOrder, AreListed, AreNames, ArePut, IsLonger, first_list}
use Rattle.list_writer.proofs.list_tables.table_body.Given as goal

abbrev pub invariant-loop-entry : goal.invariant-loop-entry
invariant-loop-entry l =
    AreListed l.lists l.bytes.items l.known × IsLonger (first_list l.count) l.bytes.items
    × ((kind : ListKind) (lo own : ℕ) → AreNames kind lo own l.fn.names.items → AreInOrder kind lo l.entries →
    ArePut kind l.lists l.start lo own l.bytes.items l.indexes l.fn.names.items l.names.items (take l.entry-index l.entries))
