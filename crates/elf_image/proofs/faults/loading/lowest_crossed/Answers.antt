use Rattle.elf_image.proofs.CodeLemmas.{crosses_nothing}
use Rattle.elf_image.proofs.LowestPlaces.{IsLowest-lower}
use Rattle.elf_image.proofs.faults.loading.lowest_crossed.Goals as goal

pub returns : goal.returns
returns c = IsLowest-lower _ _ _ c.lower.ensures c.lowest_crossing.ensures c.crossing_table.ensures

pub returns-in_err-code : goal.returns-in_err-code
returns-in_err-code c = rw c.from_residual.ensures (crosses_nothing c.args.segments.file.now c.in_err-code.ensures.none)
