use Rattle.elf_image.specs.internal.SegmentExtents.{IsExtentOf}
use Rattle.elf_image.proofs.SegmentExtentLemmas.{AreExtents-more, IsExtentOf-unique, IsExtentOf-place}
use Rattle.elf_image.proofs.faults.segment_extents.segment_extents.Goals as goal

pub loop-index-preserved : goal.loop-index-preserved
loop-index-preserved c =
    let file = c.args.segments.file.now in
    AreExtents-more file (IsExtentOf c.args.kind file) (IsExtentOf-unique c.args.kind file) (IsExtentOf-place c.args.kind file)
    c.loop-index.index _ _ _ c.extent_of.ensures.some c.extent_of.ensures.none c.in_ok-push_some.ensures.is c.loop-index.invariant
