use Rattle.std.proofs.Common.{◌∙◌, sym}
use Rattle.std.proofs.lemmas.Iterator.Adapters.{position_from-zero}
use Rattle.answer_runs.specs.AddressRanges.{holds_address}
use Rattle.answer_runs.proofs.first_range.FirstRange.new.Goals as goal

pub returns : goal.returns
returns c = λ a. c.in_ok-pieces.ensures.found a ∙ sym (position_from-zero (holds_address a) c.args.ranges.now)
