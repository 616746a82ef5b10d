use Rattle.std.proofs.Common.{◌≡◌, ◌<◌, ◌∙◌, ℕ, List, All, length, slice_index, subst, sym, ap, arith, refl}
use Rattle.block_layout.specs.Parts.{greatest}
use Rattle.block_layout.specs.Walks.{links_of}
use Rattle.block_layout.proofs.ChainLists.{AreHotTo, chain_inside, same_chain, hot_skip, hot_more, hot_all}
use Rattle.block_layout.specs.declared.hot_chains.HotChain.{HotChain}
use Rattle.block_layout.proofs.hot_chains.hot_chains.Goals as goal

pub greatest-weight-requires : goal.greatest-weight-requires
greatest-weight-requires c =
    let below : c.loop-head.head < length c.args.links.now.next.items = omega (arith, c.requires.weights, c.requires.inside) in
    let inside = chain_inside (length c.args.links.now.next.items) (links_of c.args.links.now) c.loop-head.head
    c.in_ok-blocks.blocks.items c.requires.links.between below c.in_ok-blocks.ensures in
    subst (λ (blocks : List ℕ). All (λ k. k < length c.args.weights.now) blocks) (sym c.deref.ensures.value)
    (subst (λ (n : ℕ). All (λ k. k < n) c.in_ok-blocks.blocks.items) (sym c.requires.weights) inside)

pub loop-head-preserved-then-weight-eq0 : goal.loop-head-preserved-then-weight-eq0
loop-head-preserved-then-weight-eq0 c =
    let zero' : greatest (λ k. slice_index c.args.weights.now k) c.in_ok-blocks.blocks.items ≡ 0 =
    ap (greatest (λ k. slice_index c.args.weights.now k)) (sym c.deref.ensures.value) ∙ sym c.greatest-weight.ensures
    ∙ c.if-weight-eq0.true in
    hot_skip c.loop-head.invariant (λ xs is hot.
    let same = ap (greatest (λ k. slice_index c.args.weights.now k)) (same_chain is c.in_ok-blocks.ensures) in
    omega (arith, same, zero', hot))

pub loop-head-preserved : goal.loop-head-preserved
loop-head-preserved c =
    let weight : c.greatest-weight.result ≡ greatest (λ k. slice_index c.args.weights.now k) c.in_ok-blocks.blocks.items =
    c.greatest-weight.ensures ∙ ap (greatest (λ k. slice_index c.args.weights.now k)) c.deref.ensures.value in
    let after : c.args.start < c.loop-head.head = omega arith in
    let new : HotChain = record { weight = c.greatest-weight.result; head = c.loop-head.head; blocks = c.in_ok-blocks.blocks } in
    rw c.in_ok-push.ensures.items
    (hot_more c.loop-head.invariant new after refl c.in_ok-blocks.ensures weight (omega (arith, c.if-weight-eq0.false)))

pub returns-clause-chains : goal.returns-clause-chains
returns-clause-chains c =
    let end : c.loop-head.head ≡ c.args.end = omega (arith, c.requires.some) in
    hot_all (subst (λ (n : ℕ). AreHotTo (links_of c.args.links.now)
    (λ k. slice_index c.args.weights.now k) c.args.start n c.loop-head.chains.items) end c.loop-head.invariant)
    c.sort_chains.ensures.permutation
