use Rattle.std.proofs.Common.{rules, leb, Vec, ℕ}
use Rattle.std.specs.declared.alloc.Global.{Global}
use Rattle.std.proofs.lemmas.Bool.{leb-true, leb-false}
use Rattle.std.proofs.lemmas.List.Sorted.{IsPartitionPoint-from_clause, IsPartitionedBy-leb}
use Rattle.edge_profile.specs.NameEnds.{code_at}
use Rattle.edge_profile.proofs.name_ends.count_up_to.Goals as goal

pub returns-clause-up_to : goal.returns-clause-up_to
returns-clause-up_to c = λ ascend.
    let key : Vec ℕ Global → ℕ = λ (n : Vec ℕ Global). code_at c.args.index n.items in
    let point = IsPartitionPoint-from_clause (λ (n : Vec ℕ Global). leb (key n) c.args.code) _ _
    c.partition_point.ensures.partitioned (IsPartitionedBy-leb key c.args.names.now c.args.code ascend)
    (λ a r q k. search rules) in
    λ k d within. leb-true _ _ (point.0 k d (search rules) within)

pub returns-clause-above : goal.returns-clause-above
returns-clause-above c = λ ascend.
    let key : Vec ℕ Global → ℕ = λ (n : Vec ℕ Global). code_at c.args.index n.items in
    let point = IsPartitionPoint-from_clause (λ (n : Vec ℕ Global). leb (key n) c.args.code) _ _
    c.partition_point.ensures.partitioned (IsPartitionedBy-leb key c.args.names.now c.args.code ascend)
    (λ a r q k. search rules) in
    λ k d from within. leb-false _ _ (point.1 k d from within)
