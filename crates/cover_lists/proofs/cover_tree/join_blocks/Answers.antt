use Rattle.std.proofs.Common.{arith, ℕ, ◌≡◌, ◌+◌, ◌-◌, List, subst, drop}
use Rattle.cover_lists.specs.declared.cover_tree.Node.{Node}
use Rattle.cover_lists.specs.CoverTree.{covers_of, AreBlocks, IsBlock}
use Rattle.cover_lists.proofs.CoverTreeFacts.{joined}
use Rattle.cover_lists.proofs.cover_tree.join_blocks.Goals as goal

pub loop-index-preserved : goal.loop-index-preserved
loop-index-preserved c =
    let ns : List Node = c.loop-index.nodes in
    let j : ℕ = c.loop-index.index - 1 in
    let next : c.loop-index.index ≡ j + 1 = omega (arith, c.loop-index-test.true) in
    joined ns c.args.nodes.now j c.block_before.result _ (omega (arith, c.loop-index-test.true, c.loop-index.auto.index))
    c.block_before.ensures.cover
    (subst (λ (l : List Node). IsBlock c.block_before.result (covers_of l)) c.split_at.ensures.back c.block_before.ensures.block)
    (c.loop-index.invariant.0, subst (λ (k : ℕ). AreBlocks (drop k ns)) next c.loop-index.invariant.1)
