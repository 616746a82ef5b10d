use Rattle.std.proofs.Common.{rules}
use Rattle.rv_code.specs.layout.WorstSizes.{worst_size_of_block}
use Rattle.sample_gen.proofs.Placed.{all_fit, left_after}
use Rattle.sample_gen.proofs.fault_check.is_near.Goals as goal

pub loop-block-preserved : goal.loop-block-preserved
loop-block-preserved c =
    left_after (worst_size_of_block c.args.funcs.now) c.args.blocks.now c.loop-block.block-index c.loop-block.room
    c.loop-block.invariant c.worst_size_of_block-size.result _ c.loop-block-test.true c.worst_size_of_block-size.ensures.is
    (search rules)

pub returns : goal.returns
returns c = λ yes.
    all_fit (worst_size_of_block c.args.funcs.now) c.args.blocks.now c.loop-block.block-index c.loop-block.room
    c.loop-block.invariant c.loop-block-test.false
