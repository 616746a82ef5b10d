use Rattle.std.proofs.Common.{◌∙◌, ap}
use Rattle.std.specs.Prelude.{option_and_then, slice_get}
use Rattle.line_rewrite.proofs.sequence_index.SequenceIndex.find.Goals as goal

pub returns-clause-first : goal.returns-clause-first
returns-clause-first c = λ x from to.
    c.place.ensures ∙ ap (option_and_then (slice_get c.args.self.now.places.items)) (c.piece-number.ensures.first x from to)
