use Rattle.elf_image.specs.internal.SegmentExtents.{AreExtents, IsExtentOf}
use Rattle.elf_image.proofs.faults.segment_extents.segment_extents.Given as goal

abbrev pub invariant-loop-index : goal.invariant-loop-index
invariant-loop-index l = AreExtents (IsExtentOf l.kind l.segments.file.now) l.index l.extents.items
