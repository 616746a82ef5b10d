use Rattle.std.proofs.Common.{rules}
use Rattle.std.proofs.lemmas.List.Sorted.{answers_always}
use Rattle.block_layout.specs.declared.edge_counts.Edge.{Edge}
use Rattle.block_layout.proofs.Sorting.{edges-sorted}
use Rattle.block_layout.proofs.edge_counts.sort_edges.Goals as goal

pub returns-clause-sorted : goal.returns-clause-sorted
returns-clause-sorted c =
    edges-sorted _ (c.sort_unstable_by_key.ensures.sorted (λ (e : Edge). (record { 0 = e.count }, e.from, e.to))
    (answers_always _ _ _ (λ f a r f' k. search rules)))
