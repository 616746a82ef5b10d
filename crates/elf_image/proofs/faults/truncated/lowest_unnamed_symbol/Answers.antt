use Rattle.std.proofs.Common.{◌∙◌, sym}
use Rattle.elf_image.specs.file.Symbols.{symbol_table}
use Rattle.elf_image.proofs.TruncatedPlaces.{IsLowest-symbols, IsLowest-no_names}
use Rattle.elf_image.proofs.faults.truncated.lowest_unnamed_symbol.Goals as goal

pub returns : goal.returns
returns c =
    IsLowest-symbols c.args.headers.file.now (symbol_table c.args.headers.file.now) c.in_ok-table.table _
    (sym c.in_ok-table.was ∙ c.symbol_table.ensures.first) c.in_ok-names.ensures.found c.lowest_unnamed_of.ensures

pub returns-in_err-names : goal.returns-in_err-names
returns-in_err-names c =
    rw c.from_residual-in_err-names.ensures
    (IsLowest-no_names c.args.headers.file.now (symbol_table c.args.headers.file.now) c.in_ok-table.table
    (sym c.in_ok-table.was ∙ c.symbol_table.ensures.first) c.in_err-names.ensures.none)
