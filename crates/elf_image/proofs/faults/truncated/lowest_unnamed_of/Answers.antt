use Rattle.std.proofs.Common.{rules}
use Rattle.elf_image.specs.faults.Truncation.{IsUnnamedSymbol}
use Rattle.elf_image.proofs.Folds.{IsLowest-of}
use Rattle.elf_image.proofs.LowestPlaces.{IsLowest-all}
use Rattle.elf_image.proofs.faults.truncated.lowest_unnamed_of.Goals as goal

pub returns : goal.returns
returns c =
    let Is = IsUnnamedSymbol c.args.file.now c.args.table.now in
    IsLowest-all Is _ _ _ c.symbol_count.ensures
    (IsLowest-of Is _ _ _ (λ i r below gives. search (rules, gives)) c.lowest_below.ensures)
