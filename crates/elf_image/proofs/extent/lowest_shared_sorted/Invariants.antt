use Rattle.elf_image.specs.faults.LowestPlace.{IsLowest, SomeBelow}
use Rattle.elf_image.specs.internal.Extents.{IsReach}
use Rattle.elf_image.proofs.ExtentLemmas.{MeetingPlace}
use Rattle.elf_image.proofs.extent.lowest_shared_sorted.Given as goal

abbrev pub invariant-loop-index : goal.invariant-loop-index
invariant-loop-index l =
    record { lowest : IsLowest (SomeBelow l.index (MeetingPlace l.extents)) l.lowest; reach : IsReach l.extents l.index l.reach }
