use Rattle.std.proofs.Common.{◌≡◌, map, take}
use Rattle.flow_infer.specs.Sources.{turned}
use Rattle.flow_infer.proofs.counts.turned.Given as goal

abbrev pub invariant-loop-pair : goal.invariant-loop-pair
invariant-loop-pair l = l.ends.items ≡ map turned (take l.pair-index l.pairs)
