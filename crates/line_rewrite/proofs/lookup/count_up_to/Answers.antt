use Rattle.std.proofs.Common.{arith, nat_le, rules}
use Rattle.std.proofs.lemmas.Bool.{leb-true, leb-false}
use Rattle.std.proofs.lemmas.List.Sorted.{IsPartitionPoint-from_clause, IsPartitionedBy-leb}
use Rattle.line_rewrite.specs.declared.kept.Kept.{Kept}
use Rattle.line_rewrite.proofs.lookup.count_up_to.Goals as goal

pub returns-clause-last : goal.returns-clause-last
returns-clause-last c = λ up k some.
    let parted = IsPartitionedBy-leb (λ (r : Kept). r.address) c.args.kept.now c.args.a up in
    let point = IsPartitionPoint-from_clause (λ r. nat_le r.address c.args.a) _ _ c.partition_point.ensures.partitioned parted
    (λ a r q k. search rules) in
    leb-true _ _ (point.0 _ k (search rules) (omega arith))

pub returns-clause-next : goal.returns-clause-next
returns-clause-next c = λ up k some.
    let parted = IsPartitionedBy-leb (λ (r : Kept). r.address) c.args.kept.now c.args.a up in
    let point = IsPartitionPoint-from_clause (λ r. nat_le r.address c.args.a) _ _ c.partition_point.ensures.partitioned parted
    (λ a r q k. search rules) in
    leb-false _ _ (point.1 _ k (search rules) (omega arith))
