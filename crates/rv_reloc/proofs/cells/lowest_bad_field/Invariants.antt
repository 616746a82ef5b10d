use Rattle.std.proofs.Common.{take}
use Rattle.elf_image.specs.faults.LowestPlace.{IsLowest}
use Rattle.rv_reloc.specs.Cells.{HasBadContent}
use Rattle.rv_reloc.specs.Places.{IsPlaceOf}
use Rattle.rv_reloc.proofs.cells.lowest_bad_field.Given as goal

abbrev pub invariant-loop-field : goal.invariant-loop-field
invariant-loop-field l = IsLowest (IsPlaceOf (λ f. f.place) HasBadContent (take l.field-index l.counted)) l.lowest
