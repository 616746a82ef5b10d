use Rattle.std.proofs.Common.{FitsSigned, rules, arith}
use Rattle.std.specs.Int.{w128}
use Rattle.std.proofs.lemmas.Int.{to_z-of_z}
use Rattle.rv_reloc.proofs.LabelsAt.{below-none, below-test}
use Rattle.rv_reloc.proofs.slots.has_label_below.Goals as goal

pub returns-then-index-eq0 : goal.returns-then-index-eq0
returns-then-index-eq0 c =
    let fits : FitsSigned w128 c.args.number = search rules in
    let found = c.count_below-index.ensures in
    below-none c.args.labels.now c.args.place c.args.number _ c.count_below-index.result (to_z-of_z w128 _ fits) found.bound
    found.below found.above c.requires c.if-index-eq0.true

pub returns : goal.returns
returns c =
    let fits : FitsSigned w128 c.args.number = search rules in
    let found = c.count_below-index.ensures in
    let other = c.if-index-eq0.false in
    below-test c.args.labels.now c.args.place c.args.number _ c.count_below-index.result (to_z-of_z w128 _ fits) found.bound
    found.below found.above c.requires (omega arith)
