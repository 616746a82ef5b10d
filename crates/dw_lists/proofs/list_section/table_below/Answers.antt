use Rattle.std.proofs.Common.{rules, ◌≡◌, ◌∙◌, ◌-◌, ℕ, suc, nat_le, sym, ap, arith}
use Rattle.std.proofs.lemmas.List.Sorted.{IsPartitionPoint-from_clause, IsPartitionedBy-leb}
use Rattle.table_core.specs.DebugUnits.{Walked}
use Rattle.dw_lists.proofs.TablesBelow.{below_is, last_of}
use Rattle.dw_lists.proofs.list_section.table_below.Goals as goal

pub returns-then-started-eq0 : goal.returns-then-started-eq0
returns-then-started-eq0 c =
    let parted = IsPartitionedBy-leb (λ (w : Walked). w.place) c.args.tables.now c.args.at c.requires in
    let point = IsPartitionPoint-from_clause (λ (w : Walked). nat_le w.place c.args.at) _ _ c.partition_point-started.ensures.partitioned
    parted (λ a r q k. search rules) in
    let none : c.partition_point-started.result ≡ 0 = c.if-started-eq0.true in
    sym (below_is c.args.at c.args.tables.now c.partition_point-started.result c.partition_point-started.ensures.bound
    (λ k d h. point.0 k d (omega arith) h) (λ k d h l. point.1 k d h l) ∙ ap (λ (n : ℕ). last_of n c.args.tables.now) none)

pub returns : goal.returns
returns c =
    let parted = IsPartitionedBy-leb (λ (w : Walked). w.place) c.args.tables.now c.args.at c.requires in
    let point = IsPartitionPoint-from_clause (λ (w : Walked). nat_le w.place c.args.at) _ _ c.partition_point-started.ensures.partitioned
    parted (λ a r q k. search rules) in
    let some : c.partition_point-started.result ≡ suc (c.partition_point-started.result - 1) = omega (arith, c.if-started-eq0.false) in
    c.table_of.ensures
    ∙ sym (below_is c.args.at c.args.tables.now c.partition_point-started.result c.partition_point-started.ensures.bound
    (λ k d h. point.0 k d (omega arith) h) (λ k d h l. point.1 k d h l) ∙ ap (λ (n : ℕ). last_of n c.args.tables.now) some)
