use Rattle.std.proofs.Common.{rules, arith}
use Rattle.std.proofs.lemmas.List.Sorted.{IsPartitionPoint-from_clause}
use Rattle.rv_code.specs.declared.placed.Block.{Block}
use Rattle.edge_profile.specs.BlockPlaces.{begins_by}
use Rattle.edge_profile.proofs.Weighing.{partitioned_blocks}
use Rattle.edge_profile.proofs.weights.count_of_all.Goals as goal

pub returns-clause-below : goal.returns-clause-below
returns-clause-below c =
    let place = c.args.place.now in
    let parted = partitioned_blocks c.args.blocks.now c.requires place.func place.inst in
    let point = IsPartitionPoint-from_clause (λ (b : Block). begins_by place.func place.inst b) _ _
    c.partition_point.ensures.partitioned parted (λ a r q k. search rules) in
    λ k d less. point.0 k d (omega arith) less

pub returns-clause-above : goal.returns-clause-above
returns-clause-above c =
    let place = c.args.place.now in
    let parted = partitioned_blocks c.args.blocks.now c.requires place.func place.inst in
    let point = IsPartitionPoint-from_clause (λ (b : Block). begins_by place.func place.inst b) _ _
    c.partition_point.ensures.partitioned parted (λ a r q k. search rules) in
    λ k d from within. point.1 k d from within
