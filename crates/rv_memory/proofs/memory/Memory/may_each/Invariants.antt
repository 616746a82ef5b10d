use Rattle.std.proofs.Common.{◌≡◌, ◌-◌}
use Rattle.rv_code.specs.machine.Machine.{plus, all_may}
use Rattle.rv_memory.specs.Memory.{may}
use Rattle.rv_memory.proofs.memory.Memory.may_each.Given as goal

abbrev pub invariant-loop-i : goal.invariant-loop-i
invariant-loop-i l =
    all_may (may l.self l.access) l.address l.count ≡ all_may (may l.self l.access) (plus l.address l.i) (l.count - l.i)
