use Rattle.std.proofs.Common.{rules, ℕ, nat_le, nat_lt, sym, subst}
use Rattle.std.specs.List.Sorted.{IsNonDecreasingBy}
use Rattle.std.proofs.lemmas.List.Sorted.{IsPartitionPoint-from_clause, IsPartitionedBy-leb, IsPartitionedBy-ltb, IsNonDecreasingBy-take}
use Rattle.flow_infer.proofs.Runs.{pairs_rise, run_filtered}
use Rattle.flow_infer.proofs.ways.edges_from.Goals as goal

pub returns : goal.returns
returns c =
    let block = c.args.block in
    let xs = c.args.edges.now in
    let up = pairs_rise xs c.requires in
    let upto = subst (IsNonDecreasingBy (λ (e : ℕ × ℕ). e.0)) (sym c.split_at.ensures.front)
    (IsNonDecreasingBy-take (λ (e : ℕ × ℕ). e.0) _ xs up) in
    run_filtered (λ (e : ℕ × ℕ). e.0) block xs _ _ _ _ c.split_at.ensures.front c.split_at-2.ensures.back
    c.partition_point.ensures.bound
    (IsPartitionPoint-from_clause (λ (e : ℕ × ℕ). nat_le e.0 block) _ _ c.partition_point.ensures.partitioned
    (IsPartitionedBy-leb (λ (e : ℕ × ℕ). e.0) _ block up) (λ a r q k. search rules))
    (IsPartitionPoint-from_clause (λ (e : ℕ × ℕ). nat_lt e.0 block) _ _ c.partition_point-2.ensures.partitioned
    (IsPartitionedBy-ltb (λ (e : ℕ × ℕ). e.0) _ block upto) (λ a r q k. search rules))
