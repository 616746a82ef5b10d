use Rattle.std.proofs.lemmas.List.Sorted.{IsPermutation-trans}
use Rattle.addr_map.specs.internal.Orders.{AreApart}
use Rattle.addr_map.proofs.Orders.{apart_flip}
use Rattle.rb_bytes.proofs.Permuted.{AllPairs-permutation}
use Rattle.addr_map.proofs.order.by_input.Goals as goal

pub sort_by_input-requires : goal.sort_by_input-requires
sort_by_input-requires c =
    AllPairs-permutation AreApart apart_flip c.args.spans.now c.in_ok-sorted.sorted.items c.in_ok-sorted.ensures c.requires

pub returns-clause-same : goal.returns-clause-same
returns-clause-same c =
    IsPermutation-trans c.args.spans.now c.in_ok-sorted.sorted.items c.sort_by_input.new.spans.items c.in_ok-sorted.ensures
    c.sort_by_input.ensures.same
