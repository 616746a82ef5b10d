use Rattle.sample_gen.proofs.Placed.{can_be_placed}
use Rattle.sample_gen.proofs.fault_check.can_be_placed.Goals as goal

pub returns-then-none_whole : goal.returns-then-none_whole
returns-then-none_whole c = λ near.
    can_be_placed c.args.funcs.now c.args.blocks.now (c.none_whole.ensures c.if-none_whole.true) (c.is_near.ensures near)
