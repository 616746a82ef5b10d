use Rattle.std.proofs.Common.{◌↔◌, subst, IsTrue}
use Rattle.elf_image.specs.declared.segment.Segment.{Segment}
use Rattle.elf_image.specs.faults.SegmentLayout.{CrossesEnd}
use Rattle.elf_image.proofs.LowestPlaces.{IsLowest-place}
use Rattle.elf_image.proofs.faults.loading.crossing.Goals as goal

pub returns : goal.returns
returns c =
    let Says : Segment → Type 0 =
    λ p. IsTrue c.crosses_end-is_wrong.result ↔ CrossesEnd c.args.segments.file.now p.offset p.filesz in
    IsLowest-place _ _ _ _ _ c.place_if.ensures c.place.ensures
    (subst Says c.segment_of-segment.ensures c.crosses_end-is_wrong.ensures)
