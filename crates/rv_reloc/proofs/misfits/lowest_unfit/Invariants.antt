use Rattle.std.proofs.Common.{take}
use Rattle.elf_image.specs.faults.LowestPlace.{IsLowest}
use Rattle.rv_reloc.specs.Misfits.{IsUnfit}
use Rattle.rv_reloc.specs.Places.{IsPlaceOf}
use Rattle.rv_reloc.specs.Records.{seen}
use Rattle.rv_reloc.proofs.misfits.lowest_unfit.Given as goal

abbrev pub invariant-loop-index : goal.invariant-loop-index
invariant-loop-index l =
    IsLowest (IsPlaceOf (λ r. r.place) (λ r. IsUnfit l.elf (seen r)) (take l.index l.records)) l.lowest
