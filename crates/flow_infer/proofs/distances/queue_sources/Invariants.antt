use Rattle.std.proofs.Common.{length}
use Rattle.std.specs.BinaryHeap.{heap_items}
use Rattle.flow_infer.specs.Heights.{AreNodes}
use Rattle.flow_infer.proofs.distances.queue_sources.Given as goal

abbrev pub invariant-loop-arc : goal.invariant-loop-arc
invariant-loop-arc l = AreNodes (length l.network.heights.now) (heap_items l.queue)
