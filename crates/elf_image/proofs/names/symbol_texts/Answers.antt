use Rattle.std.proofs.Common.{◌<◌, ◌∙◌, sym, ap, subst, arith, Bool, []}
use Rattle.std.specs.Prelude.{if◌then◌else◌}
use Rattle.std.proofs.lemmas.Bool.{lt-ltb}
use Rattle.elf_image.specs.declared.section.SectionHeader.{SectionHeader}
use Rattle.elf_image.specs.faults.Truncation.{HasContents}
use Rattle.elf_image.specs.file.Header.{e_shnum}
use Rattle.elf_image.specs.file.Sections.{contents, section_header}
use Rattle.elf_image.proofs.names.symbol_texts.Goals as goal

pub section_bytes-requires : goal.section_bytes-requires
section_bytes-requires c =
    subst (HasContents c.args.file.now) (sym c.section_of.ensures)
    (c.requires.contents c.args.table.now.link (omega (arith, c.if-table-count.false, c.count.ensures)))

pub returns : goal.returns
returns c =
    let file = c.args.file.now in
    let link = c.args.table.now.link in
    let below : link < e_shnum file = omega (arith, c.if-table-count.false, c.count.ensures) in
    c.section_bytes.ensures.bytes ∙ ap (λ (s : SectionHeader). contents file s) c.section_of.ensures
    ∙ ap (λ (b : Bool). if b then contents file (section_header file link) else []) (sym (lt-ltb link (e_shnum file) below))
