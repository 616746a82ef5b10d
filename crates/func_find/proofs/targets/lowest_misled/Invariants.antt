use Rattle.std.proofs.Common.{take}
use Rattle.elf_image.specs.faults.LowestPlace.{IsLowest}
use Rattle.func_find.specs.Targets.{HasMisled}
use Rattle.func_find.proofs.targets.lowest_misled.Given as goal

abbrev pub invariant-loop-func : goal.invariant-loop-func
invariant-loop-func l = IsLowest (HasMisled l.starts l.parts (take l.func-index l.funcs)) l.lowest
