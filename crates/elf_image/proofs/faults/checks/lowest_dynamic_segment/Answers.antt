use Rattle.std.proofs.Common.{rules}
use Rattle.elf_image.specs.faults.FileFaults.{IsDynamic}
use Rattle.elf_image.proofs.Folds.{IsLowest-of}
use Rattle.elf_image.proofs.LowestPlaces.{IsLowest-all}
use Rattle.elf_image.proofs.faults.checks.lowest_dynamic_segment.Goals as goal

pub returns : goal.returns
returns c =
    let Is = IsDynamic c.args.segments.file.now in
    IsLowest-all Is _ _ _ c.count.ensures
    (IsLowest-of Is _ _ _ (λ i r below gives. search (rules, gives)) c.lowest_below.ensures)
