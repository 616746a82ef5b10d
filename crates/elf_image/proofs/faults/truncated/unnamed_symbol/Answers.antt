use Rattle.std.proofs.Common.{arith}
use Rattle.elf_image.specs.file.Header.{number_at}
use Rattle.elf_image.specs.file.Symbols.{symbol_names, symbol_place}
use Rattle.elf_image.proofs.TruncatedPlaces.{IsLowest-unended}
use Rattle.elf_image.proofs.faults.truncated.unnamed_symbol.Goals as goal

pub returns : goal.returns
returns c =
    IsLowest-unended
    (symbol_names c.args.file.now c.args.table.now)
    c.args.end
    _
    (number_at c.args.file.now (symbol_place c.args.table.now c.args.index) 4)
    _
    (symbol_place c.args.table.now c.args.index)
    _
    c.requires.end
    c.u32_at.ensures
    c.place_if.ensures
    (omega arith)
