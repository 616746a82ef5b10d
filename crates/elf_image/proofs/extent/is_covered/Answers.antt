use Rattle.std.proofs.Common.{◌-◌, arith}
use Rattle.std.proofs.lemmas.Bool.{leb-true, le-leb}
use Rattle.elf_image.proofs.ReachLemmas.{IsCovered-from_last, IsCovered-by_last}
use Rattle.elf_image.proofs.extent.is_covered.Goals as goal

pub returns-then-below-gt0 : goal.returns-then-below-gt0
returns-then-below-gt0 c =
    let some = c.if-below-gt0.true in
    let bound = c.count_from-below.ensures.bound in (
      (λ high. IsCovered-from_last c.args.extents.now c.args.start c.args.end (c.count_from-below.result - 1) _ (omega arith)
          (c.count_from-below.ensures.below (c.count_from-below.result - 1) _ (omega arith)) (leb-true _ _ high)),
      (λ covered. le-leb _ _
          ((IsCovered-by_last c.args.extents.now c.args.start c.args.end c.count_from-below.result _ c.requires.growing
          c.count_from-below.ensures.above covered).1 bound)),
    )
