use Rattle.std.proofs.Common.{All, ◌<◌, length}
use Rattle.flow_infer.proofs.searching.push_sources.Given as goal

abbrev pub invariant-loop-arc : goal.invariant-loop-arc
invariant-loop-arc l = All (λ n. n < length l.network.heights.now) l.order.items
