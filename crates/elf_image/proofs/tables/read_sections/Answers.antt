use Rattle.std.proofs.Common.{◌+◌, sym, subst}
use Rattle.elf_image.specs.file.ParsedFile.{AreSections}
use Rattle.elf_image.proofs.ReadLists.{AreSections-more}
use Rattle.elf_image.proofs.tables.read_sections.Goals as goal

pub loop-index-preserved : goal.loop-index-preserved
loop-index-preserved c =
    subst
    (AreSections c.args.file.now (c.loop-index.index + 1))
    (sym c.in_ok-push.ensures.items)
    (AreSections-more c.args.file.now c.loop-index.index _ _ c.loop-index.invariant c.read_section.ensures)
