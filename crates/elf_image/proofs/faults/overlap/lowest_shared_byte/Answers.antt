use Rattle.std.proofs.lemmas.Result.{IfOk-weaker}
use Rattle.elf_image.specs.internal.SegmentExtents.{IsFileExtent}
use Rattle.elf_image.proofs.SegmentExtentLemmas.{not_empty, IsLowest-extents, IsByteOf, IsFileExtent-place, IsFileExtent-some}
use Rattle.elf_image.proofs.SegmentExtentLemmas.{IsFileExtent-holds, IsFileExtent-not_empty}
use Rattle.elf_image.proofs.faults.overlap.lowest_shared_byte.Goals as goal

pub lowest_shared-requires-clause-not_empty : goal.lowest_shared-requires-clause-not_empty
lowest_shared-requires-clause-not_empty c =
    not_empty (IsFileExtent c.args.segments.file.now) _ _
    (IsFileExtent-not_empty c.args.segments.file.now) c.in_ok-segment_extents.ensures

pub returns : goal.returns
returns c =
    IfOk-weaker _ _ _
    (λ lowest is. IsLowest-extents c.args.segments.file.now (IsFileExtent c.args.segments.file.now)
    (IsByteOf c.args.segments.file.now) (IsFileExtent-place c.args.segments.file.now) (IsFileExtent-some c.args.segments.file.now)
    (IsFileExtent-holds c.args.segments.file.now) _ _ lowest c.in_ok-segment_extents.ensures is) c.lowest_shared.ensures
