use Rattle.std.proofs.Common.{◌≡◌, ◌≤◌, ◌-◌, ℕ, None}
use Rattle.std.specs.Prelude.{replicate}
use Rattle.rv_code.specs.machine.Machine.{plus, put}
use Rattle.sym_machine.specs.internal.OtherBytes.{other_byte}
use Rattle.sym_machine.proofs.memory.SymMemory.clear_each.Given as goal

abbrev pub invariant-loop-left : goal.invariant-loop-left
invariant-loop-left l = record {
  within : l.left ≤ l.count;
  cleared : (q : ℕ) → other_byte l.self.others q
      ≡ put (other_byte l.initial.self.others) (plus l.address l.left) (replicate (l.count - l.left) None) q;
  bytes : l.self.bytes ≡ l.initial.self.bytes;
}

abbrev pub decreases-loop-left : goal.decreases-loop-left
decreases-loop-left l = l.left
