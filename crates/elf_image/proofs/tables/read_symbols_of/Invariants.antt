use Rattle.elf_image.specs.file.ParsedFile.{AreSymbols}
use Rattle.elf_image.proofs.tables.read_symbols_of.Given as goal

abbrev pub invariant-loop-index : goal.invariant-loop-index
invariant-loop-index l = AreSymbols l.file l.table l.index l.symbols.items
