use Rattle.std.proofs.Common.{take}
use Rattle.edge_profile.proofs.Weighing.{AreWeights}
use Rattle.edge_profile.proofs.weights.block_weights.Given as goal

abbrev pub invariant-loop-pair : goal.invariant-loop-pair
invariant-loop-pair l = AreWeights l.funcs l.blocks (take l.pair-index l.pair-items) l.weights.items
