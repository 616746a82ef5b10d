use Rattle.std.proofs.Common.{rules}
use Rattle.std.proofs.lemmas.List.Sorted.{answers_always}
use Rattle.edge_profile.specs.PairCounts.{Counted}
use Rattle.edge_profile.proofs.Merging.{pairs-sorted}
use Rattle.edge_profile.proofs.pairs.sort_by_pair.Goals as goal

pub returns-clause-ordered : goal.returns-clause-ordered
returns-clause-ordered c =
    pairs-sorted _
    (c.sort_unstable_by_key.ensures.sorted (λ (x : Counted). (x.0, x.1)) (answers_always _ _ _ (λ f a r f' k. search rules)))
