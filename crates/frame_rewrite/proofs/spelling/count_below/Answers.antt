use Rattle.std.proofs.Common.{rules, arith, nat_lt, ℕ}
use Rattle.std.proofs.lemmas.Bool.{ltb-true, ltb-false}
use Rattle.std.proofs.lemmas.List.Sorted.{IsPartitionPoint-from_clause, IsPartitionedBy-ltb}
use Rattle.cfi_rows.specs.declared.row.Rule.{Rule}
use Rattle.frame_rewrite.proofs.RuleSearch.{rising, past-low, from-there}
use Rattle.frame_rewrite.proofs.spelling.count_below.Goals as goal

pub returns : goal.returns
returns c =
    let parted = IsPartitionedBy-ltb (λ (x : ℕ × Rule). x.0) c.args.rules.now c.args.register (rising 0 c.args.rules.now c.requires) in
    let point = IsPartitionPoint-from_clause (λ (x : ℕ × Rule). nat_lt x.0 c.args.register) _ _ c.partition_point.ensures.partitioned
    parted (λ a r q k. search rules) in
    record {
      rest = past-low c.args.register c.partition_point.result c.args.rules.now
          (λ j d a b. ltb-true _ _ (point.0 j d (omega arith) a));
      above = from-there c.args.register 0 c.partition_point.result c.args.rules.now c.requires
          (λ d l. ltb-false _ _ (point.1 c.partition_point.result d (omega arith) (omega arith)));
    }
