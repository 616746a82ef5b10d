use Rattle.std.proofs.Common.{rules}
use Rattle.std.specs.Prelude.{nat_lt}
use Rattle.std.proofs.lemmas.Bool.{ltb-true, ltb-false}
use Rattle.std.proofs.lemmas.List.Sorted.{IsPartitionPoint-from_clause, IsPartitionedBy-ltb}
use Rattle.rv_code.specs.declared.placed.Placed.{Placed}
use Rattle.edge_profile.proofs.LaidOut.{non_decreasing}
use Rattle.edge_profile.proofs.places.count_below.Goals as goal

pub returns-clause-below : goal.returns-clause-below
returns-clause-below c =
    let parted = IsPartitionedBy-ltb (λ (p : Placed). p.addr) c.args.insts.now c.args.address (non_decreasing _ c.requires) in
    let point = IsPartitionPoint-from_clause
    (λ (p : Placed). nat_lt p.addr c.args.address) _ _ c.partition_point.ensures.partitioned parted (λ a r q k. search rules) in
    λ k d within. ltb-true _ _ (point.0 k d (search rules) within)

pub returns-clause-above : goal.returns-clause-above
returns-clause-above c =
    let parted = IsPartitionedBy-ltb (λ (p : Placed). p.addr) c.args.insts.now c.args.address (non_decreasing _ c.requires) in
    let point = IsPartitionPoint-from_clause
    (λ (p : Placed). nat_lt p.addr c.args.address) _ _ c.partition_point.ensures.partitioned parted (λ a r q k. search rules) in
    λ k d from within. ltb-false _ _ (point.1 k d from within)
