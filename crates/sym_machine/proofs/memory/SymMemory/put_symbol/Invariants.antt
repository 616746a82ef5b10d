use Rattle.std.proofs.Common.{◌≡◌, ◌≤◌, ◌+◌, ◌-◌, ℕ}
use Rattle.rv_code.specs.machine.Machine.{plus, put}
use Rattle.sym_machine.specs.internal.OtherBytes.{other_byte}
use Rattle.sym_machine.specs.internal.Memory.{other_bytes, HasGroups}
use Rattle.sym_machine.proofs.memory.SymMemory.put_symbol.Given as goal

abbrev pub invariant-loop-left : goal.invariant-loop-left
invariant-loop-left l = record {
  within : l.left ≤ l.count;
  room : HasGroups l.self.others l.address l.count;
  written : (q : ℕ) → other_byte l.self.others q ≡ put (other_byte l.initial.self.others) (plus l.address l.left)
      (other_bytes l.bytes.symbol l.bytes.width (l.bytes.first + l.left) (l.count - l.left)) q;
  space_kept : l.self.bytes ≡ l.initial.self.bytes;
}

abbrev pub decreases-loop-left : goal.decreases-loop-left
decreases-loop-left l = l.left
