use Rattle.std.proofs.Common.{◌≡◌, ℕ, ◌<◌, ◌++◌, take, slice_index_or}
use Rattle.elf_image.specs.declared.segment.Segment.{Segment}
use Rattle.elf_parts.specs.Spellings.{SegmentFits, segment_table}
use Rattle.elf_parts.proofs.spell.put_segments.Given as goal

abbrev pub invariant-loop-p : goal.invariant-loop-p
invariant-loop-p l =
    (l.out.items ≡ l.fn.out.items ++ segment_table (take l.p-index l.segments))
    × ((k : ℕ) (d : Segment) → k < l.p-index → SegmentFits (slice_index_or l.segments k d))
