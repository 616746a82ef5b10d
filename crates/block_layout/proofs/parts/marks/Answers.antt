use Rattle.std.proofs.Common.{◌-◌, ◌+◌, ◌↔◌, ℕ, false, List, Contains, IsTrue, get_or, subst, arith}
use Rattle.std.proofs.lemmas.List.{take_all}
use Rattle.block_layout.proofs.Marking.{marked_more}
use Rattle.block_layout.proofs.parts.marks.Goals as goal

pub loop-block-preserved : goal.loop-block-preserved
loop-block-preserved c =
    let x = c.requires.hot c.loop-block.block-index 0 c.loop-block-test.true in
    marked_more c.args.hot.now c.loop-block.block-index 0 c.args.start
    (c.args.end - c.args.start) c.loop-block.marks.items c.loop-block-test.true x.0
    (omega (arith, x.0, x.1)) c.loop-block.invariant

pub returns-clause-marked : goal.returns-clause-marked
returns-clause-marked c = λ k within.
    subst (λ (hot : List ℕ). IsTrue (get_or c.loop-block.marks.items k false) ↔ Contains hot (c.args.start + k))
    (take_all c.loop-block.block-index c.args.hot.now c.loop-block-test.false) (c.loop-block.invariant.marked k within)
