use Rattle.std.proofs.Common.{◌∙◌, ap}
use Rattle.std.specs.Prelude.{option_and_then, slice_get}
use Rattle.addr_rewrite.proofs.unit_index.UnitIndex.piece.Goals as goal

pub returns-clause-unit : goal.returns-clause-unit
returns-clause-unit c = λ x from to.
    c.unit.ensures ∙ ap (option_and_then (slice_get c.args.self.now.units.items)) (c.piece-number.ensures.first x from to)
