use Rattle.std.proofs.Common.{◌≡◌, ◌≤◌, ◌-◌, ◌++◌, length}
use Rattle.addr_rewrite.specs.WrittenAranges.{spelled_tables, tables_of}
use Rattle.addr_rewrite.proofs.put_tables.put_tables.Given as goal

abbrev pub invariant-loop-count : goal.invariant-loop-count
invariant-loop-count l = record {
  written : l.out.items ++ spelled_tables (tables_of (length l.stretches - l.count) l.rest)
      ≡ l.fn.out.items ++ spelled_tables (tables_of (length l.stretches) l.stretches);
  few : length l.rest ≤ length l.stretches;
}
