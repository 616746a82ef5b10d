use Rattle.std.proofs.Common.{◌≡◌, take}
use Rattle.elf_image.specs.faults.LowestPlace.{IsLowest}
use Rattle.elf_image.specs.declared.relocation.TheConstants.{R_RISCV_IRELATIVE}
use Rattle.rv_reloc.specs.Places.{IsPlaceOf}
use Rattle.rv_reloc.proofs.ifunc.lowest_irelative.Given as goal

abbrev pub invariant-loop-relocation : goal.invariant-loop-relocation
invariant-loop-relocation l =
    IsLowest (IsPlaceOf (λ x. x.place) (λ x. x.kind ≡ R_RISCV_IRELATIVE) (take l.relocation-index l.records)) l.lowest
