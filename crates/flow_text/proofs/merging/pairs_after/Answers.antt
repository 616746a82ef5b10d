use Rattle.std.proofs.Common.{◌∙◌, rules}
use Rattle.std.specs.Prelude.{not}
use Rattle.std.proofs.lemmas.List.Sorted.{IsPartitionPoint-from_clause}
use Rattle.edge_profile.specs.PairCounts.{Counted}
use Rattle.edge_profile.specs.Pairs.{is_before}
use Rattle.flow_text.proofs.Cuts.{back_is, parted_after}
use Rattle.flow_text.proofs.merging.pairs_after.Goals as goal

pub returns : goal.returns
returns c =
    let xs = c.args.pairs.now in
    c.split_at.ensures.back ∙ back_is (λ (p : Counted). is_before c.args.pair.now p) xs _
    (IsPartitionPoint-from_clause (λ (p : Counted). not (is_before c.args.pair.now p)) _ _ c.partition_point.ensures.partitioned
    (parted_after xs c.requires c.args.pair.now) (λ a r q k. search rules))
