use Rattle.std.proofs.Common.{◌≡◌, take}
use Rattle.elf_plan.specs.Area.{lowest_behind}
use Rattle.elf_plan.proofs.area.lowest_behind.Given as goal

abbrev pub invariant-loop-p : goal.invariant-loop-p
invariant-loop-p l = l.low ≡ lowest_behind l.offset (take l.p-index l.segments)
