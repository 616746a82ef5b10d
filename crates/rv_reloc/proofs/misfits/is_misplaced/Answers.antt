use Rattle.rv_reloc.proofs.Either.{either}
use Rattle.rv_reloc.proofs.misfits.is_misplaced.Goals as goal

pub returns : goal.returns
returns c =
    either _ _ _ c.is_either-3.ensures
    (either _ _ _ c.is_either.ensures c.is_bad_call-call.ensures c.is_bad_upper-upper.ensures)
    (either _ _ _ c.is_either-2.ensures c.is_bad_lower-lower.ensures c.is_bad_absolute-absolute.ensures)
