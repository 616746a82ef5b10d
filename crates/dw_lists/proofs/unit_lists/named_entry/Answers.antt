use Rattle.std.proofs.Common.{◌∙◌}
use Rattle.std.specs.Option.{option_or}
use Rattle.dw_lists.proofs.unit_lists.named_entry.Goals as goal

pub returns : goal.returns
returns c = λ u e base same. c.or.ensures ∙ (λ i. option_or (c.entry_pc.ensures u e base same i) (c.low_pc.ensures u e base same i))
