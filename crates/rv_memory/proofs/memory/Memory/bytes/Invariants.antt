use Rattle.std.proofs.Common.{◌≡◌, ◌++◌, ◌-◌}
use Rattle.rv_code.specs.machine.Machine.{plus, memory_bytes}
use Rattle.rv_memory.specs.Memory.{memory_of}
use Rattle.rv_memory.proofs.memory.Memory.bytes.Given as goal

abbrev pub invariant-loop-i : goal.invariant-loop-i
invariant-loop-i l = l.bytes.items
    ++ memory_bytes (memory_of l.self) (plus l.address l.i) (l.count - l.i) ≡ memory_bytes (memory_of l.self) l.address l.count
