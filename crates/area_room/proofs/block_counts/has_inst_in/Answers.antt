use Rattle.std.proofs.Common.{rules}
use Rattle.std.specs.Prelude.{nat_lt}
use Rattle.std.proofs.lemmas.List.Sorted.{IsPartitionPoint-from_clause, IsPartitionedBy-ltb}
use Rattle.rv_code.specs.declared.placed.Placed.{Placed}
use Rattle.area_room.proofs.BlockStretches.{searched}
use Rattle.area_room.proofs.block_counts.has_inst_in.Goals as goal

pub returns-then-first-insts : goal.returns-then-first-insts
returns-then-first-insts c =
    let is = searched c.args.funcs.now c.args.low c.args.high c.args.block.now c.requires.laid c.requires.block
    c.index-funcs-block.result c.deref.result.now c.deref.ensures.value c.partition_point-first.result
    (λ rise. IsPartitionPoint-from_clause (λ (p : Placed). nat_lt p.addr c.args.low) _ _
    c.partition_point-first.ensures.partitioned (IsPartitionedBy-ltb (λ (p : Placed). p.addr) _ c.args.low rise)
    (λ a r q k. search rules)) in
    is.at _ c.if-first-insts.true

pub returns-else-first-insts : goal.returns-else-first-insts
returns-else-first-insts c =
    let is = searched c.args.funcs.now c.args.low c.args.high c.args.block.now c.requires.laid c.requires.block
    c.index-funcs-block.result c.deref.result.now c.deref.ensures.value c.partition_point-first.result
    (λ rise. IsPartitionPoint-from_clause (λ (p : Placed). nat_lt p.addr c.args.low) _ _
    c.partition_point-first.ensures.partitioned (IsPartitionedBy-ltb (λ (p : Placed). p.addr) _ c.args.low rise)
    (λ a r q k. search rules)) in
    is.past c.if-first-insts.false
