use Rattle.std.proofs.Common.{◌≡◌, ◌++◌, take}
use Rattle.std.specs.Prelude.{flat_map}
use Rattle.list_writer.specs.WrittenRanges.{run_bytes}
use Rattle.list_writer.proofs.range_tables.put_list.Given as goal

abbrev pub invariant-loop-run : goal.invariant-loop-run
invariant-loop-run l = l.out.items ≡ l.fn.out.items ++ flat_map run_bytes (take l.run-index l.runs)
