use Rattle.elf_image.specs.internal.Folds.{IsLowestOf}
use Rattle.elf_image.proofs.lowest.lowest_below.Given as goal

abbrev pub invariant-loop-index : goal.invariant-loop-index
invariant-loop-index g l = IsLowestOf (goal.F-post g l.place_of) l.index l.lowest
