use Rattle.std.proofs.Common.{◌≡◌, ◌+◌, drop}
use Rattle.std.specs.Prelude.{fold, min, map, filter, ◌&&◌, nat_le}
use Rattle.elf_image.specs.memory.Image.{has_memory}
use Rattle.elf_image.specs.memory.Break.{page_size, rounded_down, writable_end, break_start, break_room, pages_above}
use Rattle.map_check.proofs.layout.break_bound.Given as goal

abbrev pub invariant-loop-segment : goal.invariant-loop-segment
invariant-loop-segment l =
    fold min l.bound
    (map (λ p. rounded_down page_size p.vaddr)
    (filter (λ p. has_memory p && nat_le (writable_end l.segments) p.vaddr) (drop l.segment-index l.segments)))
    ≡ fold min (break_start l.segments + break_room) (pages_above l.segments)
