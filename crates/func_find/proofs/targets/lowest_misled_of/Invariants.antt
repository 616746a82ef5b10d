use Rattle.std.proofs.Common.{take}
use Rattle.elf_image.specs.faults.LowestPlace.{IsLowest}
use Rattle.rv_reloc.specs.Places.{IsPlaceOf}
use Rattle.func_find.specs.Targets.{IsMisled}
use Rattle.func_find.proofs.targets.lowest_misled_of.Given as goal

abbrev pub invariant-loop-inst : goal.invariant-loop-inst
invariant-loop-inst l = IsLowest (IsPlaceOf (λ p. p.addr) (IsMisled l.starts l.parts) (take l.inst-index l.insts)) l.lowest
