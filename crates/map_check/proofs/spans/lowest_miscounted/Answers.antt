use Rattle.std.proofs.Common.{ap, ◌∙◌}
use Rattle.map_check.specs.internal.SpanLists.{first_difference}
use Rattle.map_check.proofs.FirstDifference.{miscounted_lowest}
use Rattle.map_check.proofs.spans.lowest_miscounted.Goals as goal

pub returns : goal.returns
returns c =
    miscounted_lowest c.args.funcs.now c.args.sorted.now c.first_difference.result c.requires.sorted c.requires.laid
    (c.first_difference.ensures ∙ ap (first_difference c.args.sorted.now) (c.deref.ensures.value ∙ c.in_ok-addresses.ensures))
