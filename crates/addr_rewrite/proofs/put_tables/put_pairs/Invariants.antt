use Rattle.std.proofs.Common.{◌≡◌, ◌++◌, drop}
use Rattle.addr_rewrite.specs.WrittenAranges.{pairs_bytes}
use Rattle.addr_rewrite.proofs.put_tables.put_pairs.Given as goal

abbrev pub invariant-loop-stretch : goal.invariant-loop-stretch
invariant-loop-stretch l =
    l.out.items ++ pairs_bytes (drop l.stretch-index l.stretches) ≡ l.fn.out.items ++ pairs_bytes l.stretches
