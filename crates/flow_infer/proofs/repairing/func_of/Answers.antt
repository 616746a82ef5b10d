use Rattle.std.proofs.Common.{sym}
use Rattle.flow_infer.proofs.RepairedLists.{func_at_place}
use Rattle.flow_infer.proofs.repairing.func_of.Goals as goal

pub returns : goal.returns
returns c = sym (func_at_place c.args.blocks.now c.args.place _ c.requires)
