use Rattle.elf_image.specs.internal.Extents.{IsReach}
use Rattle.elf_image.proofs.ReachLemmas.{AreReaches}
use Rattle.elf_image.proofs.extent.reaches_of.Given as goal

abbrev pub invariant-loop-extent : goal.invariant-loop-extent
invariant-loop-extent l =
    record { reach : IsReach l.extents l.extent-index l.reach; reaches : AreReaches l.extents l.reaches.items l.extent-index }
