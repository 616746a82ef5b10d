use Rattle.elf_image.specs.file.ParsedFile.{AreSections}
use Rattle.elf_image.proofs.tables.read_sections.Given as goal

abbrev pub invariant-loop-index : goal.invariant-loop-index
invariant-loop-index l = AreSections l.file l.index l.sections.items
