use Rattle.std.proofs.Common.{rules, nat_le, nat_lt, sym, subst}
use Rattle.std.specs.List.Sorted.{IsNonDecreasingBy}
use Rattle.std.proofs.lemmas.List.Sorted.{IsPartitionPoint-from_clause, IsPartitionedBy-leb, IsPartitionedBy-ltb, IsNonDecreasingBy-take}
use Rattle.edge_profile.specs.PairCounts.{Counted}
use Rattle.flow_infer.proofs.Runs.{run_filtered}
use Rattle.flow_infer.proofs.counts.pairs_from.Goals as goal

pub returns : goal.returns
returns c =
    let address = c.args.address in
    let xs = c.args.pairs.now in
    let up = c.requires.ordered in
    let upto = subst (IsNonDecreasingBy (λ (p : Counted). p.0)) (sym c.split_at.ensures.front)
    (IsNonDecreasingBy-take (λ (p : Counted). p.0) _ xs up) in
    run_filtered (λ (p : Counted). p.0) address xs _ _ _ _ c.split_at.ensures.front c.split_at-2.ensures.back
    c.partition_point.ensures.bound
    (IsPartitionPoint-from_clause (λ (p : Counted). nat_le p.0 address) _ _ c.partition_point.ensures.partitioned
    (IsPartitionedBy-leb (λ (p : Counted). p.0) _ address up) (λ a r q k. search rules))
    (IsPartitionPoint-from_clause (λ (p : Counted). nat_lt p.0 address) _ _ c.partition_point-2.ensures.partitioned
    (IsPartitionedBy-ltb (λ (p : Counted). p.0) _ address upto) (λ a r q k. search rules))
