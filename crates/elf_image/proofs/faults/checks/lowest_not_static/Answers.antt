use Rattle.elf_image.proofs.LowestPlaces.{IsLowest-lower}
use Rattle.elf_image.proofs.faults.checks.lowest_not_static.Goals as goal

pub returns : goal.returns
returns c = IsLowest-lower _ _ _ c.lower.ensures c.lowest_other_type.ensures c.lowest_dynamic_segment.ensures
