use Rattle.std.proofs.Common.{◌≡◌, ◌++◌, drop}
use Rattle.std.specs.Prelude.{flat_map}
use Rattle.rv_code.specs.machine.Machine.{low_bytes}
use Rattle.rv_memory.proofs.stack.put_numbers.Given as goal

abbrev pub invariant-loop-number : goal.invariant-loop-number
invariant-loop-number l =
    l.out.items ++ flat_map (low_bytes 8) (drop l.number-index l.numbers)
    ≡ l.initial.out.items ++ flat_map (low_bytes 8) l.numbers
