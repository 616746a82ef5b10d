use Rattle.std.proofs.Common.{◌≡◌, ℕ, ◌≤◌, length, drop, true}
use Rattle.rv_code.specs.machine.Machine.{plus, put, all_may}
use Rattle.rv_memory.specs.Memory.{memory_of, writes, HasRoom, Keeps}
use Rattle.rv_memory.proofs.memory.Memory.overwrite.Given as goal

abbrev pub invariant-loop-left : goal.invariant-loop-left
invariant-loop-left l = record {
  within : l.left ≤ length l.bytes;
  room : HasRoom l.self l.address (length l.bytes);
  writable : all_may (writes l.self) l.address (length l.bytes) ≡ true;
  written : (q : ℕ) → memory_of l.self q ≡ put (memory_of l.initial.self) (plus l.address l.left) (drop l.left l.bytes) q;
  space_kept : Keeps l.initial.self l.self;
}

abbrev pub decreases-loop-left : goal.decreases-loop-left
decreases-loop-left l = l.left
