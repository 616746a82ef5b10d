use Rattle.elf_image.specs.faults.Truncation.{HasSegments}
use Rattle.elf_image.proofs.LowestPlaces.{IsLowest-under}
use Rattle.elf_image.proofs.faults.truncated.lowest_truncated_by_segments.Goals as goal

pub returns-then-has_segments : goal.returns-then-has_segments
returns-then-has_segments c =
    IsLowest-under (HasSegments c.args.header.file.now) _
    (c.has_segments.ensures.0 c.if-has_segments.true) c.lowest_truncated_segment.ensures
