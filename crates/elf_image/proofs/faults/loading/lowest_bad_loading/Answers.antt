use Rattle.elf_image.proofs.LowestPlaces.{IsLowest-lower}
use Rattle.elf_image.proofs.faults.loading.lowest_bad_loading.Goals as goal

pub returns : goal.returns
returns c =
    IsLowest-lower _ _ _ c.lower-2.ensures c.lowest_bad_code.ensures
    (IsLowest-lower _ _ _ c.lower-past_code.ensures
    (IsLowest-lower _ _ _ c.lower-shared.ensures c.in_ok-lowest_shared_address.ensures c.in_ok-lowest_shared_byte.ensures)
    (IsLowest-lower _ _ _ c.lower.ensures c.lowest_crossed.ensures c.in_ok-stray.ensures))
