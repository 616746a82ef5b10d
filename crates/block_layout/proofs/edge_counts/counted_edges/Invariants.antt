use Rattle.edge_profile.specs.Profile.{profile_counts}
use Rattle.block_layout.specs.EdgeCounts.{edge_count}
use Rattle.block_layout.proofs.Counting.{IsCountedTo}
use Rattle.block_layout.proofs.edge_counts.counted_edges.Given as goal

abbrev pub invariant-loop-edge : goal.invariant-loop-edge
invariant-loop-edge l = IsCountedTo (edge_count (profile_counts l.profile) l.funcs l.blocks) l.edges l.edge-index l.taken.items
