use Rattle.std.proofs.lemmas.Result.{IfOk-weaker}
use Rattle.elf_image.specs.internal.SegmentExtents.{IsAddressExtent}
use Rattle.elf_image.proofs.SegmentExtentLemmas.{not_empty, IsLowest-extents, IsAddressOf, IsAddressExtent-place}
use Rattle.elf_image.proofs.SegmentExtentLemmas.{IsAddressExtent-some, IsAddressExtent-holds, IsAddressExtent-not_empty}
use Rattle.elf_image.proofs.faults.overlap.lowest_shared_address.Goals as goal

pub lowest_shared-requires-clause-not_empty : goal.lowest_shared-requires-clause-not_empty
lowest_shared-requires-clause-not_empty c =
    not_empty (IsAddressExtent c.args.segments.file.now) _ _
    (IsAddressExtent-not_empty c.args.segments.file.now) c.in_ok-segment_extents.ensures

pub returns : goal.returns
returns c =
    IfOk-weaker _ _ _
    (λ lowest is. IsLowest-extents c.args.segments.file.now (IsAddressExtent c.args.segments.file.now)
    (IsAddressOf c.args.segments.file.now) (IsAddressExtent-place c.args.segments.file.now)
    (IsAddressExtent-some c.args.segments.file.now)
    (IsAddressExtent-holds c.args.segments.file.now) _ _ lowest c.in_ok-segment_extents.ensures is) c.lowest_shared.ensures
