use Rattle.std.proofs.Common.{ap}
use Rattle.elf_image.specs.declared.header.HeaderFields.{HeaderFields}
use Rattle.elf_image.proofs.LowestPlaces.{IsLowest-lower, IsLowest-place_not}
use Rattle.elf_image.proofs.faults.truncated.lowest_truncated_table.Goals as goal

pub returns : goal.returns
returns c =
    let segments = ap (λ (h : HeaderFields). h.phoff) c.fields-fields.ensures in
    let sections = ap (λ (h : HeaderFields). h.shoff) c.fields-fields.ensures in
    IsLowest-lower _ _ _ c.lower.ensures
    (IsLowest-place_not _ _ _ _ _ c.place_if-segments.ensures segments c.has_segments.ensures)
    (IsLowest-place_not _ _ _ _ _ c.place_if-sections.ensures sections c.has_sections.ensures)
