use Rattle.edge_profile.proofs.Merging.{IsMergedTo}
use Rattle.edge_profile.proofs.pairs.merged_sorted.Given as goal

abbrev pub invariant-loop-p : goal.invariant-loop-p
invariant-loop-p l = IsMergedTo l.said l.p-index l.pairs.items
