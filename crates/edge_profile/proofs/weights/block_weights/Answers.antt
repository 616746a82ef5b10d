use Rattle.std.proofs.Common.{◌∙◌, sym, subst, take, List, ℕ, ◌+◌, arith}
use Rattle.std.proofs.lemmas.List.{take_at, take_all}
use Rattle.std.proofs.lemmas.Grind.{common_steps}
use Rattle.edge_profile.specs.PairCounts.{Counted}
use Rattle.edge_profile.proofs.Weighing.{AreWeights, weights_more, weights_all}
use Rattle.edge_profile.proofs.weights.block_weights.Goals as goal

pub loop-pair-preserved : goal.loop-pair-preserved
loop-pair-preserved c =
    let funcs = c.args.funcs.now in
    let blocks = c.args.blocks.now in
    let pairs = c.pairs-pair-items.result.now in
    let was = subst (λ (weights : List ℕ). AreWeights funcs blocks (take c.loop-pair.pair-index pairs) weights)
    (sym c.deref_mut.ensures.value) c.loop-pair.invariant in
    let new = weights_more funcs blocks pairs c.loop-pair.pair-index _ c.deref_mut.result.now c.add-near.new.weights
    c.loop-pair-test.true c.add-near.auto.weights
    c.add-near.ensures.weights c.add-near.ensures.total was in
    subst (λ (weights : List ℕ). AreWeights funcs blocks (take (c.loop-pair.pair-index + 1) pairs) weights)
    (sym (take_at c.add-near.new.weights _ c.loop-pair.weights.len (c.add-near.auto.weights ∙ c.deref_mut.ensures.len))) new

pub returns-clause-weights : goal.returns-clause-weights
returns-clause-weights c =
    let all =
    take_all c.loop-pair.pair-index c.pairs-pair-items.result.now c.loop-pair-test.false ∙ c.pairs-pair-items.ensures.value in
    weights_all c.args.funcs.now c.args.blocks.now _ c.loop-pair.weights.items
    (subst (λ (pairs : List Counted). AreWeights c.args.funcs.now c.args.blocks.now pairs c.loop-pair.weights.items)
    all c.loop-pair.invariant)

pub loop-pair-init : goal.loop-pair-init
loop-pair-init c = grind (arith, common_steps)

pub add-near-requires-clause-fits : goal.add-near-requires-clause-fits
add-near-requires-clause-fits c = grind (arith, common_steps)

pub returns-clause-few : goal.returns-clause-few
returns-clause-few c = grind (arith, common_steps)
