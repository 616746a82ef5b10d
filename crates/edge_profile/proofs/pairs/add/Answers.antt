use Rattle.std.proofs.Common.{◌∙◌, sym, ap, subst, arith, length, List}
use Rattle.edge_profile.specs.PairCounts.{Counted}
use Rattle.edge_profile.specs.Pairs.{AddsCount, is_last_pair}
use Rattle.edge_profile.proofs.Merging.{raised_last, added_pushed}
use Rattle.edge_profile.proofs.pairs.add.Goals as goal

pub returns-then-is_last : goal.returns-then-is_last
returns-then-is_last c =
    let last = ap (is_last_pair c.args.from c.args.to) (sym c.deref.ensures.value) ∙ sym c.is_last.ensures ∙ c.if-is_last.true in
    raised_last c.args.pairs.now.items _ c.index_mut.result.now (c.args.from, c.args.to, c.args.count) last
    (omega (arith, c.len-last.ensures, c.deref.ensures.len, ap length c.deref.ensures.value)) c.index_mut.ensures.value
    c.requires.ordered c.requires.positive

pub returns : goal.returns
returns c =
    let last = ap (is_last_pair c.args.from c.args.to) (sym c.deref.ensures.value) ∙ sym c.is_last.ensures ∙ c.if-is_last.false in
    subst (λ (new : List Counted). AddsCount c.args.pairs.now.items new (c.args.from, c.args.to, c.args.count))
    (sym c.in_ok-push.ensures.items)
    (added_pushed c.args.pairs.now.items
    (c.args.from, c.args.to, c.args.count) c.requires.positive c.requires.last c.requires.ordered last)
