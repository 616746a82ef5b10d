use Rattle.elf_image.proofs.SegmentExtentLemmas.{IsCodeExtent-none}
use Rattle.elf_image.proofs.faults.segment_extents.code_extent.Goals as goal

pub returns-then-is_code-clause-none : goal.returns-then-is_code-clause-none
returns-then-is_code-clause-none c = IsCodeExtent-none c.args.segments.file.now c.args.index _ c.address_extent.ensures.none
