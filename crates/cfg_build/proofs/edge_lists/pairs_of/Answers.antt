use Rattle.std.proofs.Common.{rules, nat_le, nat_lt, ℕ, sym, subst}
use Rattle.std.specs.List.Sorted.{IsNonDecreasingBy}
use Rattle.std.proofs.lemmas.List.Sorted.{IsPartitionPoint-from_clause, IsPartitionedBy-leb, IsPartitionedBy-ltb, IsNonDecreasingBy-take}
use Rattle.cfg_build.proofs.Lookups.{pairs_rise, pairs_between}
use Rattle.cfg_build.proofs.edge_lists.pairs_of.Goals as goal

pub returns : goal.returns
returns c =
    let jump = c.args.jump in
    let xs = c.args.targets.now in
    let up = pairs_rise xs c.requires in
    let upto = subst (IsNonDecreasingBy (λ (e : ℕ × ℕ). e.0)) (sym c.split_at.ensures.front) (IsNonDecreasingBy-take (λ
    (e : ℕ × ℕ). e.0) _ xs up) in
    pairs_between xs _ _ _ _ jump c.split_at.ensures.front c.split_at-2.ensures.back c.partition_point.ensures.bound
    (IsPartitionPoint-from_clause (λ (e : ℕ × ℕ). nat_le e.0 jump) _ _ c.partition_point.ensures.partitioned
    (IsPartitionedBy-leb (λ (e : ℕ × ℕ). e.0) _ jump up) (λ a r q k. search rules))
    (IsPartitionPoint-from_clause (λ (e : ℕ × ℕ). nat_lt e.0 jump) _ _ c.partition_point-2.ensures.partitioned
    (IsPartitionedBy-ltb (λ (e : ℕ × ℕ). e.0) _ jump upto) (λ a r q k. search rules))
