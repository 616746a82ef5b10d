use Rattle.flow_infer.proofs.BlockWays.{entered_is}
use Rattle.flow_infer.proofs.ways.is_entered.Goals as goal

pub returns : goal.returns
returns c = λ code of.
    entered_is code c.args.source.now.funcs.now c.args.source.now.entries.now c.args.block.now c.block_start.result
    c.is_member-named.result c.begins_or.result of.funcs of.entries c.block_start.ensures c.is_member-named.ensures
    c.begins_or.ensures
