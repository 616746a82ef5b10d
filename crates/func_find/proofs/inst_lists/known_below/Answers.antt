use Rattle.std.proofs.Common.{ℕ, rules, nat_lt}
use Rattle.std.proofs.lemmas.Bool.{ltb-true}
use Rattle.std.proofs.lemmas.List.Sorted.{IsPartitionPoint-from_clause, IsPartitionedBy-ltb}
use Rattle.rv_code.specs.declared.placed.Role.{Role}
use Rattle.rb_lanes.proofs.Walked.{rising}
use Rattle.func_find.proofs.inst_lists.known_below.Goals as goal

pub returns-clause-below : goal.returns-clause-below
returns-clause-below c =
    let up = rising (λ (r : ℕ × Role). r.0) _ c.requires in
    let parted = IsPartitionedBy-ltb (λ (r : ℕ × Role). r.0) c.args.roles.now c.args.address up in
    let point = IsPartitionPoint-from_clause
    (λ (r : ℕ × Role). nat_lt r.0 c.args.address) _ _ c.partition_point.ensures.partitioned parted (λ a r q k. search rules) in
    λ k d within. ltb-true _ _ (point.0 k d (search rules) within)
