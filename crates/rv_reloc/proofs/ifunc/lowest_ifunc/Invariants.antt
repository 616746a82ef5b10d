use Rattle.std.proofs.Common.{◌≡◌, ◌%◌, take}
use Rattle.elf_image.specs.faults.LowestPlace.{IsLowest}
use Rattle.elf_image.specs.declared.symbol.TheConstants.{STT_GNU_IFUNC}
use Rattle.rv_reloc.specs.Places.{IsPlaceOf}
use Rattle.rv_reloc.proofs.ifunc.lowest_ifunc.Given as goal

abbrev pub invariant-loop-symbol : goal.invariant-loop-symbol
invariant-loop-symbol l =
    IsLowest (IsPlaceOf (λ x. x.value) (λ x. x.info % 16 ≡ STT_GNU_IFUNC) (take l.symbol-index l.symbols)) l.lowest
