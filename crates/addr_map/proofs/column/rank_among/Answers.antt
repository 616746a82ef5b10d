use Rattle.std.proofs.Common.{sym, rules, nat_le}
use Rattle.std.proofs.lemmas.Bool.{leb-true, leb-false}
use Rattle.std.proofs.lemmas.List.Sorted.{IsPartitionPoint-from_clause, IsPartitionedBy-leb}
use Rattle.addr_map.proofs.Columns.{rank_is}
use Rattle.addr_map.proofs.column.rank_among.Goals as goal

pub returns : goal.returns
returns c =
    let parted = IsPartitionedBy-leb (λ n. n) c.args.numbers.now c.args.x c.requires in
    let point = IsPartitionPoint-from_clause (λ n. nat_le n c.args.x) _ _ c.partition_point.ensures.partitioned parted
    (λ a r q k. search rules) in
    sym (rank_is c.args.numbers.now c.args.x c.partition_point.result (record {
      within = search rules;
      low = λ i within. leb-true _ _ (point.0 i 0 (search rules) within);
      high = λ i from within. leb-false _ _ (point.1 i 0 from within);
    }))
