use Rattle.std.proofs.Common.{rules, arith}
use Rattle.std.proofs.lemmas.List.Sorted.{IsPartitionPoint-from_clause}
use Rattle.edge_profile.specs.PairCounts.{Counted}
use Rattle.edge_profile.specs.Pairs.{is_before}
use Rattle.edge_profile.proofs.AscendingPairs.{partitioned}
use Rattle.edge_profile.proofs.profile.count_below.Goals as goal

pub returns : goal.returns
returns c =
    let parted = partitioned c.args.pairs.now c.requires (c.args.from, c.args.to, 0) in
    let point = IsPartitionPoint-from_clause (λ (p : Counted). is_before p (c.args.from, c.args.to, 0)) _ _
    c.partition_point.ensures.partitioned parted (λ a r q k. search rules) in
    record {
      within = c.partition_point.ensures.bound;
      below = λ j d less. point.0 j d (omega arith) less;
      above = λ j d from within. point.1 j d from within;
    }
