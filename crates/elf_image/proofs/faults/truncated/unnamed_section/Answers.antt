use Rattle.std.proofs.Common.{ap, arith}
use Rattle.elf_image.specs.file.Sections.{section_names, section_header, section_place}
use Rattle.elf_image.specs.declared.section.SectionHeader.{SectionHeader}
use Rattle.elf_image.proofs.TruncatedPlaces.{IsLowest-unended}
use Rattle.elf_image.proofs.faults.truncated.unnamed_section.Goals as goal

pub returns : goal.returns
returns c =
    IsLowest-unended
    (section_names c.args.headers.file.now)
    c.args.end
    _
    (section_header c.args.headers.file.now c.args.index).name
    _
    (section_place c.args.headers.file.now c.args.index)
    _
    c.requires.end
    (ap (λ (s : SectionHeader). s.name) c.section_of-section.ensures)
    c.place_if.ensures
    (omega arith)
