use Rattle.std.proofs.Common.{arith, refl}
use Rattle.elf_image.proofs.LowestPlaces.{IsLowest-none, IsLowest-one}
use Rattle.elf_image.proofs.faults.loading.lowest_no_code.Goals as goal

pub returns-in-Some : goal.returns-in-Some
returns-in-Some c = IsLowest-none (λ p (none, at). none _ c.in-Some.ensures.code)

pub returns-in-None : goal.returns-in-None
returns-in-None c = IsLowest-one 0x20 ((λ i code. c.in-None.ensures.none i code (omega arith)), refl) (λ p is. is.1)
