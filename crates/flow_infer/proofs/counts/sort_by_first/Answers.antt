use Rattle.std.proofs.Common.{rules}
use Rattle.std.proofs.lemmas.List.Sorted.{IsNonDecreasingBy-from_sort_by_key}
use Rattle.edge_profile.specs.PairCounts.{Counted}
use Rattle.flow_infer.proofs.counts.sort_by_first.Goals as goal

pub returns-clause-ordered : goal.returns-clause-ordered
returns-clause-ordered c =
    IsNonDecreasingBy-from_sort_by_key (λ (p : Counted). p.0) _ c.sort_unstable_by_key.ensures.sorted (λ a r q k. search rules)
