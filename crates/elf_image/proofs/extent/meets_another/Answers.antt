use Rattle.elf_image.proofs.ExtentLemmas.{MeetsAnother-from_next, MeetsNext-from_another}
use Rattle.elf_image.proofs.extent.meets_another.Goals as goal

pub returns-else-extents-index : goal.returns-else-extents-index
returns-else-extents-index c = (
  (λ next. MeetsAnother-from_next c.args.extents.now c.args.index c.requires.rising c.requires.not_empty
      (c.meets_next.ensures.0 next)),
  (λ another. c.meets_next.ensures.1
      (MeetsNext-from_another c.args.extents.now c.args.index c.args.reach _ c.requires.rising c.requires.reach
      c.if-extents-index.false another)),
)
