use Rattle.std.proofs.Common.{FitsSigned, rules, arith}
use Rattle.std.specs.Int.{w128}
use Rattle.std.proofs.lemmas.Int.{to_z-of_z}
use Rattle.rv_reloc.proofs.LabelsAt.{from-none, from-test}
use Rattle.rv_reloc.proofs.slots.has_label_from.Goals as goal

pub returns-then-index-labels : goal.returns-then-index-labels
returns-then-index-labels c =
    let fits : FitsSigned w128 c.args.number = search rules in
    let found = c.count_below-index.ensures in
    from-none c.args.labels.now c.args.place c.args.number _ c.count_below-index.result (to_z-of_z w128 _ fits) found.bound
    found.below found.above c.requires c.if-index-labels.true

pub returns : goal.returns
returns c =
    let fits : FitsSigned w128 c.args.number = search rules in
    let found = c.count_below-index.ensures in
    let bound = found.bound in
    let other = c.if-index-labels.false in
    from-test c.args.labels.now c.args.place c.args.number _ c.count_below-index.result (to_z-of_z w128 _ fits) found.bound
    found.below found.above c.requires (omega arith)
