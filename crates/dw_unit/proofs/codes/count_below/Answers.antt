use Rattle.std.proofs.Common.{rules, nat_lt}
use Rattle.std.proofs.lemmas.Bool.{ltb-true, ltb-false}
use Rattle.std.proofs.lemmas.List.Sorted.{IsPartitionPoint-from_clause, IsPartitionedBy-ltb}
use Rattle.dw_unit.proofs.codes.count_below.Goals as goal

pub returns : goal.returns
returns c =
    let parted = IsPartitionedBy-ltb (λ x. x) c.args.keys.now c.args.bound c.requires in
    let point = IsPartitionPoint-from_clause (λ x. nat_lt x c.args.bound) _ _ c.partition_point.ensures.partitioned
    parted (λ a r q k. search rules) in
    record {
      below = λ k d within. ltb-true _ _ (point.0 k d (search rules) within);
      above = λ k d from within. ltb-false _ _ (point.1 k d from within);
    }
