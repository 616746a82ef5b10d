use Rattle.std.proofs.Common.{◌∙◌, rules}
use Rattle.std.proofs.lemmas.List.Sorted.{IsPartitionPoint-from_clause}
use Rattle.edge_profile.specs.PairCounts.{Counted}
use Rattle.edge_profile.specs.Pairs.{is_before}
use Rattle.edge_profile.proofs.AscendingPairs.{ascending_pairs, partitioned}
use Rattle.flow_text.proofs.Cuts.{front_is}
use Rattle.flow_text.proofs.merging.pairs_before.Goals as goal

pub returns : goal.returns
returns c =
    let xs = c.args.pairs.now in
    c.split_at.ensures.front ∙ front_is (λ (p : Counted). is_before p c.args.pair.now) xs _
    (IsPartitionPoint-from_clause (λ (p : Counted). is_before p c.args.pair.now) _ _ c.partition_point.ensures.partitioned
    (partitioned xs (ascending_pairs xs c.requires) c.args.pair.now) (λ a r q k. search rules))
