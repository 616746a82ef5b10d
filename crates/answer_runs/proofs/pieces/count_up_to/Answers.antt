use Rattle.std.proofs.Common.{rules, nat_le}
use Rattle.std.proofs.lemmas.Bool.{leb-true, leb-false}
use Rattle.std.proofs.lemmas.List.Sorted.{IsPartitionPoint-from_clause, IsPartitionedBy-leb}
use Rattle.answer_runs.specs.declared.pieces.Piece.{Piece}
use Rattle.answer_runs.proofs.pieces.count_up_to.Goals as goal

pub returns-clause-below : goal.returns-clause-below
returns-clause-below c =
    let parted = IsPartitionedBy-leb (λ (p : Piece). p.start) c.args.pieces.now c.args.a c.requires in
    let point = IsPartitionPoint-from_clause (λ (p : Piece). nat_le p.start c.args.a) _ _ c.partition_point.ensures.partitioned
    parted (λ a r q k. search rules) in
    λ k d within. leb-true _ _ (point.0 k d (search rules) within)

pub returns-clause-above : goal.returns-clause-above
returns-clause-above c =
    let parted = IsPartitionedBy-leb (λ (p : Piece). p.start) c.args.pieces.now c.args.a c.requires in
    let point = IsPartitionPoint-from_clause (λ (p : Piece). nat_le p.start c.args.a) _ _ c.partition_point.ensures.partitioned
    parted (λ a r q k. search rules) in
    λ k d from within. leb-false _ _ (point.1 k d from within)
