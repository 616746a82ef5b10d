use Rattle.std.proofs.Common.{◌≡◌, ◌∙◌, ℕ, ap, subst, arith}
use Rattle.elf_image.specs.declared.header.HeaderFields.{HeaderFields}
use Rattle.elf_image.specs.declared.section.SectionHeader.{SectionHeader}
use Rattle.elf_image.specs.faults.Truncation.{HasContents}
use Rattle.elf_image.specs.file.Header.{e_shstrndx}
use Rattle.elf_image.specs.file.Sections.{section_header}
use Rattle.elf_image.proofs.names.section_names.Goals as goal

pub returns-clause-found : goal.returns-clause-found
returns-clause-found c =
    let file = c.args.headers.file.now in
    let index : c.fields-index.result.shstrndx ≡ e_shstrndx file = ap (λ (h : HeaderFields). h.shstrndx) c.fields-index.ensures in
    let same : c.section_of-section.result ≡ section_header file (e_shstrndx file) =
    c.section_of-section.ensures ∙ ap (λ (i : ℕ). section_header file i) index in
    let has : HasContents file c.section_of-section.result = c.has_contents.ensures.0 c.if-not-has_contents.false in
    (omega arith, subst (λ (s : SectionHeader). HasContents file s) same has)
