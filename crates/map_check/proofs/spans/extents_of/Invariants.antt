use Rattle.map_check.specs.internal.SpanLists.{AreExtentsOf}
use Rattle.map_check.proofs.spans.extents_of.Given as goal

abbrev pub invariant-loop-k : goal.invariant-loop-k
invariant-loop-k l = AreExtentsOf l.spans l.k l.extents.items
