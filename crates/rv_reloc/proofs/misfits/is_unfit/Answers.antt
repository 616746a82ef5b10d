use Rattle.rv_reloc.proofs.Either.{either}
use Rattle.rv_reloc.proofs.misfits.is_unfit.Goals as goal

pub returns : goal.returns
returns c =
    either _ _ _ c.is_either-3.ensures
    (either _ _ _ c.is_either.ensures c.has_bad_field-field.ensures c.is_misplaced-misplaced.ensures)
    (either _ _ _ c.is_either-2.ensures c.is_far-far_target.ensures c.is_bad_difference-difference.ensures)
