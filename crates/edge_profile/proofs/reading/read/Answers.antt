use Rattle.std.proofs.Common.{◌∙◌, ap, arith}
use Rattle.edge_profile.specs.PairCounts.{count_among}
use Rattle.edge_profile.proofs.AscendingPairs.{ascending_pairs}
use Rattle.edge_profile.proofs.reading.read.Goals as goal

pub merged-requires : goal.merged-requires
merged-requires c = omega (arith, c.requires.text, c.in_ok-said.ensures.few)

pub invariant_of-result : goal.invariant_of-result
invariant_of-result c = record {
  positive = c.in_ok-pairs.ensures.positive;
  ordered = ascending_pairs c.in_ok-pairs.pairs.items c.in_ok-pairs.ensures.ordered;
  few = omega (arith, c.requires.text, c.in_ok-said.ensures.few, c.in_ok-pairs.ensures.bound);
}

pub returns-clause-ignored : goal.returns-clause-ignored
returns-clause-ignored c = (c.in_ok-said.ensures.all c.args.elf.now.symbols.items c.in_ok-names.ensures).ignored

pub returns-clause-counts : goal.returns-clause-counts
returns-clause-counts c = λ from to.
    c.in_ok-pairs.ensures.counts from to
    ∙ ap (count_among from to) (c.in_ok-said.ensures.all c.args.elf.now.symbols.items c.in_ok-names.ensures).counted
