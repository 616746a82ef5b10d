use Rattle.std.proofs.Common.{◌≡◌, sym, ap, length, get_or, arith}
use Rattle.std.proofs.lemmas.List.{get_or_default}
use Rattle.edge_profile.specs.NameEnds.{BackwardName}
use Rattle.edge_profile.proofs.NameEnding.{named-first, named-none}
use Rattle.edge_profile.proofs.name_ends.NameEnds.named.Goals as goal

pub returns-then-ending : goal.returns-then-ending
returns-then-ending c = λ end is.
    sym (named-none c.args.self.now.backward.items c.args.self.now.ordered end c.args.ending is
    (λ d some size. omega (arith, some, c.if-ending.true)))

pub returns-then-name-ending : goal.returns-then-name-ending
returns-then-name-ending c = λ end is.
    let items : length c.index.result.now.items ≡ length c.as_slice-name.result.now = ap length
    (sym c.as_slice-name.ensures.value) in
    let own : length c.index.result.now.items ≡ length
    (get_or c.args.self.now.backward.items c.args.ending.start c.index.result.now).items
    = ap (λ (n : BackwardName). length n.items) c.index.ensures in
    sym (named-first c.args.self.now.backward.items c.args.self.now.ordered end c.args.ending is c.index.result.now
    (omega (arith, c.if-ending.false)) (omega (arith, items, own, c.if-name-ending.true)))

pub returns-else-name-ending : goal.returns-else-name-ending
returns-else-name-ending c = λ end is.
    let items : length c.index.result.now.items ≡ length c.as_slice-name.result.now = ap length
    (sym c.as_slice-name.ensures.value) in
    let own : length c.index.result.now.items ≡ length
    (get_or c.args.self.now.backward.items c.args.ending.start c.index.result.now).items
    = ap (λ (n : BackwardName). length n.items) c.index.ensures in
    sym (named-none c.args.self.now.backward.items c.args.self.now.ordered end c.args.ending is
    (λ d some size.
    let default = ap (λ (n : BackwardName). length n.items) (get_or_default c.args.self.now.backward.items c.args.ending.start d
    c.index.result.now (omega (arith, some, c.requires.within))) in
    c.if-name-ending.false (omega (arith, items, own, default, size))))
