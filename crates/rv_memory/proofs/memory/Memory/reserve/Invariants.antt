use Rattle.std.proofs.Common.{◌≡◌, ℕ}
use Rattle.rv_memory.specs.Memory.{memory_of, HasRoom, Keeps}
use Rattle.rv_memory.proofs.memory.Memory.reserve.Given as goal

abbrev pub invariant-loop-i : goal.invariant-loop-i
invariant-loop-i l =
    record {
      kept : (q : ℕ) →
          memory_of l.self q ≡ memory_of l.initial.self q;
      room : HasRoom l.self l.address l.i;
      space_kept : Keeps l.initial.self l.self;
    }
