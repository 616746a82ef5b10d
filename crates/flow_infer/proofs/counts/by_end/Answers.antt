use Rattle.std.proofs.Common.{subst, List}
use Rattle.std.specs.Prelude.{IsPermutation}
use Rattle.edge_profile.specs.PairCounts.{Counted}
use Rattle.flow_infer.proofs.PairSums.{turned_few}
use Rattle.flow_infer.proofs.counts.by_end.Goals as goal

pub returns-clause-ordered : goal.returns-clause-ordered
returns-clause-ordered c = record {
  ordered = c.sort_by_first.ensures.ordered;
  few = turned_few c.args.pairs.now c.sort_by_first.new.pairs.items
      (subst (λ (xs : List Counted). IsPermutation xs c.sort_by_first.new.pairs.items) c.in_ok-ends.ensures
      c.sort_by_first.ensures.permutation)
      c.requires;
}
