use Rattle.std.proofs.Common.{◌≡◌, ◌+◌, drop}
use Rattle.addr_rewrite.specs.WrittenAranges.{count_of}
use Rattle.addr_rewrite.proofs.put_tables.count_of.Given as goal

abbrev pub invariant-loop-i : goal.invariant-loop-i
invariant-loop-i l = count_of l.unit l.stretches ≡ l.i + count_of l.unit (drop l.i l.stretches)
