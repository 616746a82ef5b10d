use Rattle.std.proofs.Common.{◌≡◌, ◌-◌}
use Rattle.elf_image.specs.file.Header.{e_shnum}
use Rattle.elf_image.specs.file.Symbols.{symbol_table}
use Rattle.elf_image.proofs.TruncatedPlaces.{symbol_table_from}
use Rattle.elf_image.proofs.entries.symbol_table.Given as goal

abbrev pub invariant-loop-index : goal.invariant-loop-index
invariant-loop-index l =
    symbol_table_from l.headers.file.now l.index (e_shnum l.headers.file.now - l.index) ≡ symbol_table l.headers.file.now
