use Rattle.elf_image.proofs.LowestPlaces.{IsLowest-lower}
use Rattle.elf_image.proofs.faults.loading.lowest_bad_code.Goals as goal

pub returns : goal.returns
returns c =
    IsLowest-lower _ _ _ c.lower-2.ensures c.lowest_no_code.ensures
    (IsLowest-lower _ _ _ c.lower.ensures c.lowest_one_too_many-too_many.ensures c.lowest_odd_code.ensures)
