use Rattle.std.proofs.Common.{rules, slice_index_or}
use Rattle.std.proofs.lemmas.List.Sorted.{IsPartitionPoint-from_clause}
use Rattle.rv_reloc.proofs.Ordered.{is_below, parted, test_below, test_from}
use Rattle.rv_reloc.proofs.index.count_below.Goals as goal

pub returns : goal.returns
returns c =
    let point = IsPartitionPoint-from_clause (is_below c.args.place c.args.at) _ _ c.partition_point.ensures.partitioned
    (parted c.args.place c.args.at c.args.records.now c.requires) (λ a r q k. search rules) in
    record {
      bound = search rules;
      below = λ k d within. test_below _ _ (slice_index_or c.args.records.now k d) (point.0 k d (search rules) within);
      above = λ k d from within. test_from _ _ (slice_index_or c.args.records.now k d) (point.1 k d from within);
    }
