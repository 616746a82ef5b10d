use Rattle.elf_image.specs.faults.LowestPlace.{IsLowest, SomeBelow}
use Rattle.rv_reloc.proofs.Differing.{DifferingPlace}
use Rattle.rv_reloc.proofs.low_mismatch.lowest_low_mismatch.Given as goal

abbrev pub invariant-loop-index : goal.invariant-loop-index
invariant-loop-index l = IsLowest (SomeBelow l.index (DifferingPlace l.lows)) l.lowest
