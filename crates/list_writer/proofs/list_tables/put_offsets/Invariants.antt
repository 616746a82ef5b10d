use Rattle.std.proofs.Common.{◌≡◌, ◌++◌, ◌<◌, ◌^◌, ℕ}
use Rattle.list_writer.specs.WrittenTables as spec
use Rattle.list_writer.proofs.list_tables.put_offsets.Given as goal

abbrev pub invariant-loop-index : goal.invariant-loop-index
invariant-loop-index l =
    (l.out.items ≡ l.fn.out.items ++ spec.list_offsets l.size l.indexes l.index)
    × ((i : ℕ) → i < l.index → spec.offset_of l.size l.indexes i < 2 ^ 32)
