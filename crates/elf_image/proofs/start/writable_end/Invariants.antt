use Rattle.std.proofs.Common.{◌≡◌, ◌<◌, ◌^◌, take}
use Rattle.elf_image.specs.memory.Break.{writable_end}
use Rattle.elf_image.proofs.start.writable_end.Given as goal

abbrev pub invariant-loop-segment : goal.invariant-loop-segment
invariant-loop-segment l = (l.end ≡ writable_end (take l.segment-index l.segments)) × (l.end < 2 ^ 65)
