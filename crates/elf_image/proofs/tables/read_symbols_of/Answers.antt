use Rattle.std.proofs.Common.{◌+◌, sym, subst}
use Rattle.elf_image.specs.file.ParsedFile.{AreSymbols}
use Rattle.elf_image.proofs.ReadLists.{AreSymbols-more}
use Rattle.elf_image.proofs.tables.read_symbols_of.Goals as goal

pub loop-index-preserved : goal.loop-index-preserved
loop-index-preserved c =
    subst
    (AreSymbols c.args.file.now c.args.table.now (c.loop-index.index + 1))
    (sym c.in_ok-push.ensures.items)
    (AreSymbols-more c.args.file.now c.args.table.now c.loop-index.index _ _ c.loop-index.invariant c.symbol_at.ensures)
