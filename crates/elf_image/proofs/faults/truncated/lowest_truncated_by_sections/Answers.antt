use Rattle.elf_image.specs.faults.Truncation.{HasSections}
use Rattle.elf_image.proofs.LowestPlaces.{IsLowest-under, IsLowest-lower}
use Rattle.elf_image.proofs.faults.truncated.lowest_truncated_by_sections.Goals as goal

pub returns : goal.returns
returns c =
    IsLowest-under
    (HasSections c.args.header.file.now)
    _
    (c.has_sections.ensures.0 c.if-not-has_sections.false)
    (
    IsLowest-lower _ _ _ c.lower.ensures c.lowest_truncated_section.ensures
    (IsLowest-lower _ _ _ c.lower-names.ensures c.lowest_unnamed_section.ensures c.lowest_unnamed_symbol.ensures)
    )
