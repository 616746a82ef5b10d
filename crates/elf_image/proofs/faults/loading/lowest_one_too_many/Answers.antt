use Rattle.elf_image.proofs.CodeLemmas.{IsLowest-second}
use Rattle.elf_image.proofs.LowestPlaces.{IsLowest-place, IsLowest-none}
use Rattle.elf_image.proofs.faults.loading.lowest_one_too_many.Goals as goal

pub returns : goal.returns
returns c =
    IsLowest-second c.args.segments.file.now c.in_ok-second.second _ c.in_ok-second.ensures.second
    (IsLowest-place _ _ _ _ _ c.place_if.ensures c.place.ensures c.is_too_many-is_wrong.ensures)

pub returns-in_err-second : goal.returns-in_err-second
returns-in_err-second c =
    rw c.from_residual.ensures (IsLowest-none (λ p (i, below, ((second, many), at)). c.in_err-second.ensures.none i second))
