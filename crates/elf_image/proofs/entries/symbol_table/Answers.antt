use Rattle.std.proofs.Common.{◌≡◌, ◌∙◌, ◌<◌, ◌≤◌, Some, ap, sym, arith}
use Rattle.elf_image.specs.declared.section.SectionHeader.{SectionHeader}
use Rattle.elf_image.specs.declared.section.TheConstants.{SHT_SYMTAB}
use Rattle.elf_image.specs.file.Header.{e_shnum}
use Rattle.elf_image.specs.file.Sections.{section_header}
use Rattle.elf_image.proofs.TruncatedPlaces.{symbol_table_from-found, symbol_table_from-other, symbol_table_from-none}
use Rattle.elf_image.proofs.entries.symbol_table.Goals as goal

pub returns-then-section-eq-SHT_SYMTAB-clause-first : goal.returns-then-section-eq-SHT_SYMTAB-clause-first
returns-then-section-eq-SHT_SYMTAB-clause-first c =
    let file = c.args.headers.file.now in
    let below : c.loop-index.index < e_shnum file = omega arith in
    let is : (section_header file c.loop-index.index).kind ≡ SHT_SYMTAB =
    ap (λ (s : SectionHeader). s.kind) (sym c.section_of-section.ensures) ∙ c.if-section-eq-SHT_SYMTAB.true in
    ap Some c.section_of-section.ensures ∙ sym (symbol_table_from-found file c.loop-index.index (e_shnum file) below is)
    ∙ c.loop-index.invariant

pub loop-index-preserved : goal.loop-index-preserved
loop-index-preserved c =
    let file = c.args.headers.file.now in
    let below : c.loop-index.index < e_shnum file = omega arith in
    symbol_table_from-other
    file
    c.loop-index.index
    (e_shnum file)
    below
    (λ is. c.if-section-eq-SHT_SYMTAB.false (ap (λ (s : SectionHeader). s.kind) c.section_of-section.ensures ∙ is))
    ∙ c.loop-index.invariant

pub returns-clause-first : goal.returns-clause-first
returns-clause-first c =
    let file = c.args.headers.file.now in
    let past : e_shnum file ≤ c.loop-index.index = omega arith in
    sym (symbol_table_from-none file c.loop-index.index (e_shnum file) past) ∙ c.loop-index.invariant
