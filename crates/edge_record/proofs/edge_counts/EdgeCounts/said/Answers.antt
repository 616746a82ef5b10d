use Rattle.std.proofs.Common.{◌≡◌, ◌∙◌, ◌++◌, [], ◌∷◌, rules, ap, sym, map}
use Rattle.std.proofs.lemmas.List.{map-append}
use Rattle.std.specs.Map.Iter.{deref_pair}
use Rattle.std.proofs.lemmas.Map.Iter.{iter_end}
use Rattle.edge_record.proofs.Counting.{flat, flat_read}
use Rattle.edge_record.proofs.edge_counts.EdgeCounts.said.Goals as goal

pub loop-pair-preserved : goal.loop-pair-preserved
loop-pair-preserved c =
    c.in_ok-push.ensures.items
    ∙ ap (λ said. said ++ (c.in-Some.pair.now.0, c.in-Some.pair.now.1, c.in-Some.count.now) ∷ []) c.loop-pair.invariant
    ∙ sym (map-append (λ e. (e.0.now.0, e.0.now.1, e.1.now)) c.loop-pair.yielded ((c.in-Some.pair, c.in-Some.count) ∷ []))

pub returns : goal.returns
returns c =
    let all : map deref_pair c.loop-pair.yielded ≡ c.args.self.now.counts.entries = search (rules, iter_end) in
    c.loop-pair.invariant ∙ flat_read c.loop-pair.yielded ∙ ap flat all
