use Rattle.std.proofs.Common.{rules}
use Rattle.std.proofs.lemmas.List.Sorted.{IsNonDecreasingBy-from_sort_by_key}
use Rattle.addr_rewrite.proofs.stretch.sorted.Goals as goal

pub returns-clause-rises : goal.returns-clause-rises
returns-clause-rises c =
    IsNonDecreasingBy-from_sort_by_key (λ s. s.unit) _ c.in_ok-sort_by_key.ensures.sorted (λ a r q k. search rules)
