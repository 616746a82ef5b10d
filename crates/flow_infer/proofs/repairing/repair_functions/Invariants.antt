use Rattle.std.proofs.Common.{◌-◌, length}
use Rattle.flow_infer.specs.Repairing.{AreRepaired}
use Rattle.flow_infer.proofs.repairing.repair_functions.Given as goal

abbrev pub invariant-loop-alloc : goal.invariant-loop-alloc
invariant-loop-alloc l = AreRepaired l.source l.flow

abbrev pub decreases-loop-alloc : goal.decreases-loop-alloc
decreases-loop-alloc l = length l.source.blocks.now - length l.flow.prices.items
