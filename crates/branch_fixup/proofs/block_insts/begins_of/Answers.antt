use Rattle.std.proofs.Common.{arith}
use Rattle.branch_fixup.proofs.Holders.{begins_nowhere}
use Rattle.branch_fixup.proofs.block_insts.begins_of.Goals as goal

pub returns-else-k-order : goal.returns-else-k-order
returns-else-k-order c = begins_nowhere c.args.funcs.now c.args.blocks.now c.args.order.now c.requires.blocks
    c.requires.order c.args.k (omega arith)
