use Rattle.std.proofs.Common.{rules}
use Rattle.std.proofs.lemmas.List.Sorted.{answers_always}
use Rattle.addr_map.specs.internal.Orders.{AreApart}
use Rattle.addr_map.specs.Spans.{ShareNoByte}
use Rattle.addr_map.proofs.Orders.{apart_flip, disjoint_flip, line_key, line_order}
use Rattle.rb_bytes.proofs.Permuted.{AllPairs-permutation}
use Rattle.addr_map.proofs.order.sort_by_line.Goals as goal

pub returns : goal.returns
returns c =
    let spans = c.args.spans.now.items in
    let lines = c.sort_by_key.new.self.items in
    let same = c.in_ok-sort_by_key.ensures.permutation in
    record {
      same = same;
      ordered = line_order lines
          (c.in_ok-sort_by_key.ensures.sorted line_key (answers_always _ _ _ (λ f a r g q. search rules)))
          (AllPairs-permutation AreApart apart_flip spans lines same c.requires.once)
          (AllPairs-permutation ShareNoByte disjoint_flip spans lines same c.requires.disjoint);
    }
