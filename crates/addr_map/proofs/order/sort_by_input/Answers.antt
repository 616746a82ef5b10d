use Rattle.std.proofs.Common.{rules}
use Rattle.std.proofs.lemmas.List.Sorted.{IsNonDecreasingBy-from_sort_by_key}
use Rattle.addr_map.specs.internal.Orders.{AreApart}
use Rattle.addr_map.proofs.Orders.{apart_flip, rising_inputs}
use Rattle.rb_bytes.proofs.Permuted.{AllPairs-permutation}
use Rattle.addr_map.proofs.order.sort_by_input.Goals as goal

pub returns-clause-rises : goal.returns-clause-rises
returns-clause-rises c =
    let sorted = c.sort_by_key.new.self.items in
    rising_inputs sorted
    (IsNonDecreasingBy-from_sort_by_key (λ s. s.input) _ c.in_ok-sort_by_key.ensures.sorted (λ a r q k. search rules))
    (AllPairs-permutation AreApart apart_flip c.args.spans.now.items sorted c.in_ok-sort_by_key.ensures.permutation c.requires)
