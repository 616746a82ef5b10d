use Rattle.std.proofs.Common.{rules, nat_le, nat_lt, sym, subst, ℕ}
use Rattle.std.specs.List.Sorted.{IsNonDecreasingBy}
use Rattle.std.proofs.lemmas.List.Sorted.{IsNonDecreasingBy-take, IsPartitionPoint-from_clause, IsPartitionedBy-leb, IsPartitionedBy-ltb}
use Rattle.flow_infer.specs.declared.flow.Link.{Link}
use Rattle.flow_infer.specs.Links.{counted_ends, func_of_ends}
use Rattle.flow_infer.proofs.Runs.{run_filtered}
use Rattle.flow_text.proofs.BlockRanges.{links_up}
use Rattle.flow_text.proofs.reporting.links_of.Goals as goal

pub returns : goal.returns
returns c =
    let func = c.args.func in
    let xs = c.args.links.now in
    let key : Link → ℕ = λ l. func_of_ends c.args.blocks.now (counted_ends l) in
    let up = links_up c.args.blocks.now xs c.requires in
    let upto = subst (IsNonDecreasingBy key) (sym c.split_at.ensures.front) (IsNonDecreasingBy-take key _ xs up) in
    run_filtered key func xs _ _ _ _ c.split_at.ensures.front c.split_at-2.ensures.back c.partition_point.ensures.bound
    (IsPartitionPoint-from_clause (λ (l : Link). nat_le (key l) func) _ _ c.partition_point.ensures.partitioned
    (IsPartitionedBy-leb key _ func up) (λ a r q k. search rules))
    (IsPartitionPoint-from_clause (λ (l : Link). nat_lt (key l) func) _ _ c.partition_point-2.ensures.partitioned
    (IsPartitionedBy-ltb key _ func upto) (λ a r q k. search rules))
