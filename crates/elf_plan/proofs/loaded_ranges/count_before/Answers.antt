use Rattle.std.proofs.Common.{rules, nat_lt}
use Rattle.std.proofs.lemmas.Bool.{ltb-true, ltb-false}
use Rattle.std.proofs.lemmas.List.Sorted.{IsPartitionPoint-from_clause, IsPartitionedBy-ltb}
use Rattle.elf_image.specs.declared.extent.Extent.{Extent}
use Rattle.elf_plan.proofs.loaded_ranges.count_before.Goals as goal

pub returns-clause-below : goal.returns-clause-below
returns-clause-below c =
    let parted = IsPartitionedBy-ltb (λ (s : Extent). s.start) c.args.ranges.now c.args.end c.requires in
    let point = IsPartitionPoint-from_clause (λ s. nat_lt s.start c.args.end) _ _ c.partition_point.ensures.partitioned parted
    (λ a r q k. search rules) in
    λ k d within. ltb-true _ _ (point.0 k d (search rules) within)

pub returns-clause-above : goal.returns-clause-above
returns-clause-above c =
    let parted = IsPartitionedBy-ltb (λ (s : Extent). s.start) c.args.ranges.now c.args.end c.requires in
    let point = IsPartitionPoint-from_clause (λ s. nat_lt s.start c.args.end) _ _ c.partition_point.ensures.partitioned parted
    (λ a r q k. search rules) in
    λ k d from within. ltb-false _ _ (point.1 k d from within)
