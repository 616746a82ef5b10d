use Rattle.std.proofs.Common.{◌≡◌, ◌-◌}
use Rattle.rv_code.specs.machine.Machine.{plus, all_may}
use Rattle.sym_machine.specs.internal.Memory.{is_open_at}
use Rattle.sym_machine.proofs.memory.SymMemory.is_each_open.Given as goal

abbrev pub invariant-loop-i : goal.invariant-loop-i
invariant-loop-i l =
    all_may (is_open_at l.self) l.address l.count ≡ all_may (is_open_at l.self) (plus l.address l.i) (l.count - l.i)
