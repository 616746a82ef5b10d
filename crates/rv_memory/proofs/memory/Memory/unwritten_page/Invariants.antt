use Rattle.std.proofs.Common.{◌≡◌, ◌*◌, ◌+◌, ◌<◌, ℕ, length}
use Rattle.std.specs.Prelude.{slice_index}
use Rattle.rv_memory.specs.Memory.{unwritten_byte}
use Rattle.rv_memory.proofs.memory.Memory.unwritten_page.Given as goal

abbrev pub invariant-loop-k : goal.invariant-loop-k
invariant-loop-k l =
    record {
      size : length l.page.items ≡ l.k;
      bytes : (j : ℕ) → j < l.k →
          slice_index l.page.items j ≡ unwritten_byte l.self (l.number * 4096 + j);
    }
