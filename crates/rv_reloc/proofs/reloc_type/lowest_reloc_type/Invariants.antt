use Rattle.std.proofs.Common.{take, IsFalse}
use Rattle.elf_image.specs.faults.LowestPlace.{IsLowest}
use Rattle.elf_code.specs.Relocations.{is_supported}
use Rattle.rv_reloc.specs.Places.{IsPlaceOf}
use Rattle.rv_reloc.proofs.reloc_type.lowest_reloc_type.Given as goal

abbrev pub invariant-loop-record : goal.invariant-loop-record
invariant-loop-record l =
    IsLowest (IsPlaceOf (λ r. r.place) (λ r. IsFalse (is_supported r.kind)) (take l.record-index l.records)) l.lowest
