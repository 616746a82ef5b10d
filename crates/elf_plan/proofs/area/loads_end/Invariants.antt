use Rattle.std.proofs.Common.{◌≡◌, take}
use Rattle.elf_plan.specs.Area.{loads_end}
use Rattle.elf_plan.proofs.area.loads_end.Given as goal

abbrev pub invariant-loop-p : goal.invariant-loop-p
invariant-loop-p l = l.end ≡ loads_end (take l.p-index l.segments)
