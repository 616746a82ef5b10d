use Rattle.std.proofs.Common.{ℕ, rules, nat_lt}
use Rattle.std.proofs.lemmas.Bool.{ltb-true, ltb-false}
use Rattle.std.proofs.lemmas.List.Sorted.{IsPartitionPoint-from_clause, IsPartitionedBy-ltb}
use Rattle.rb_lanes.proofs.Walked.{rising}
use Rattle.rb_lanes.proofs.hints.search_below.Goals as goal

pub returns-clause-below : goal.returns-clause-below
returns-clause-below c =
    let parted = IsPartitionedBy-ltb (λ a. a) c.args.members.now c.args.x (rising (λ (n : ℕ). n) _ c.requires) in
    let point = IsPartitionPoint-from_clause (λ a. nat_lt a c.args.x) _ _ c.partition_point.ensures.partitioned parted
    (λ a r q k. search rules) in
    λ k d within. ltb-true _ _ (point.0 k d (search rules) within)

pub returns-clause-above : goal.returns-clause-above
returns-clause-above c =
    let parted = IsPartitionedBy-ltb (λ a. a) c.args.members.now c.args.x (rising (λ (n : ℕ). n) _ c.requires) in
    let point = IsPartitionPoint-from_clause (λ a. nat_lt a c.args.x) _ _ c.partition_point.ensures.partitioned parted
    (λ a r q k. search rules) in
    λ k d from within. ltb-false _ _ (point.1 k d from within)
