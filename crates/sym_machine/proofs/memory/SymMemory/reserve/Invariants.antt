use Rattle.std.proofs.Common.{◌≡◌, ℕ}
use Rattle.sym_machine.specs.internal.OtherBytes.{other_byte}
use Rattle.sym_machine.specs.internal.Memory.{HasGroups}
use Rattle.sym_machine.proofs.memory.SymMemory.reserve.Given as goal

abbrev pub invariant-loop-i : goal.invariant-loop-i
invariant-loop-i l = record {
  kept : (q : ℕ) → other_byte l.self.others q ≡ other_byte l.initial.self.others q;
  room : HasGroups l.self.others l.address l.i;
  space_kept : l.self.bytes ≡ l.initial.self.bytes;
}
