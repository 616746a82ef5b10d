use Rattle.std.proofs.Common.{rules, nat_le, nat_lt}
use Rattle.std.proofs.lemmas.List.Sorted.{IsPartitionPoint-from_clause, IsPartitionedBy-leb, IsPartitionedBy-ltb}
use Rattle.rv_code.specs.declared.placed.Block.{Block}
use Rattle.flow_text.proofs.BlockRanges.{blocks_between, funcs_up, range_order}
use Rattle.flow_text.proofs.reporting.blocks_of.Goals as goal

pub returns-clause-order : goal.returns-clause-order
returns-clause-order c =
    let blocks = c.args.blocks.now in
    let func = c.args.func in
    let up = funcs_up blocks c.requires in
    range_order blocks func _ _ c.partition_point-first.ensures.bound c.partition_point-end.ensures.bound
    (IsPartitionPoint-from_clause (λ (b : Block). nat_lt b.func func) _ _ c.partition_point-first.ensures.partitioned
    (IsPartitionedBy-ltb (λ (b : Block). b.func) _ func up) (λ a r q k. search rules))
    (IsPartitionPoint-from_clause (λ (b : Block). nat_le b.func func) _ _ c.partition_point-end.ensures.partitioned
    (IsPartitionedBy-leb (λ (b : Block). b.func) _ func up) (λ a r q k. search rules))

pub returns-clause-all : goal.returns-clause-all
returns-clause-all c =
    let blocks = c.args.blocks.now in
    let func = c.args.func in
    let up = funcs_up blocks c.requires in
    blocks_between blocks func _ _ c.partition_point-first.ensures.bound c.partition_point-end.ensures.bound
    (IsPartitionPoint-from_clause (λ (b : Block). nat_lt b.func func) _ _ c.partition_point-first.ensures.partitioned
    (IsPartitionedBy-ltb (λ (b : Block). b.func) _ func up) (λ a r q k. search rules))
    (IsPartitionPoint-from_clause (λ (b : Block). nat_le b.func func) _ _ c.partition_point-end.ensures.partitioned
    (IsPartitionedBy-leb (λ (b : Block). b.func) _ func up) (λ a r q k. search rules))
