use Rattle.std.proofs.Common.{◌≢◌, take}
use Rattle.elf_image.specs.faults.LowestPlace.{IsLowest}
use Rattle.elf_code.specs.ReferenceFaults.{IsStubs}
use Rattle.rv_reloc.specs.Places.{IsPlaceOf}
use Rattle.rv_reloc.proofs.ifunc.lowest_stubs.Given as goal

abbrev pub invariant-loop-section : goal.invariant-loop-section
invariant-loop-section l =
    IsLowest (IsPlaceOf (λ x. x.addr) (λ x. IsStubs x × (x.size ≢ 0)) (take l.section-index l.sections)) l.lowest
