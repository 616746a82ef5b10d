use Rattle.std.proofs.Common.{rules}
use Rattle.std.proofs.lemmas.List.Sorted.{answers_always}
use Rattle.func_place.proofs.Ranking.{denser_order}
use Rattle.func_place.proofs.ranks.sort_ranks.Goals as goal

pub returns : goal.returns
returns c = record {
  each = c.in_ok-sort_by.ensures.permutation;
  ordered = c.in_ok-sort_by.ensures.sorted _ denser_order (answers_always _ _ _ (λ f a r f' k. search rules));
}
