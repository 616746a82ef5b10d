use Rattle.std.proofs.Common.{ℕ, List, take}
use Rattle.elf_image.specs.faults.LowestPlace.{IsLowest}
use Rattle.elf_code.specs.ReferenceFaults.{IsNarrow}
use Rattle.rv_reloc.specs.Places.{IsPlaceOf}
use Rattle.rv_reloc.specs.Records.{seen}
use Rattle.code_starts.specs.WholeParts.{AreWholeParts}
use Rattle.rv_reloc.proofs.differences.lowest_narrow.Given as goal

abbrev pub invariant-loop-index : goal.invariant-loop-index
invariant-loop-index l =
    (tabled : List (ℕ × ℕ)) → AreWholeParts l.elf tabled l.wholes →
    IsLowest (IsPlaceOf (λ r. r.place) (λ r. IsNarrow l.elf tabled (seen r)) (take l.index l.records)) l.lowest
