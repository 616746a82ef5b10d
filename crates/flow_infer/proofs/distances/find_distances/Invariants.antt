use Rattle.std.proofs.Common.{◌≡◌, length}
use Rattle.std.specs.BinaryHeap.{heap_items}
use Rattle.flow_infer.specs.Heights.{AreNodes}
use Rattle.flow_infer.proofs.distances.find_distances.Given as goal

abbrev pub invariant-loop-n : goal.invariant-loop-n
invariant-loop-n l = (length l.of_nodes.items ≡ l.nodes) × AreNodes l.nodes (heap_items l.queue)

abbrev pub invariant-loop : goal.invariant-loop
invariant-loop l = (length l.of_nodes.items ≡ l.nodes) × AreNodes l.nodes (heap_items l.queue)
