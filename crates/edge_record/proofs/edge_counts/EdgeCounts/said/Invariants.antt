use Rattle.std.proofs.Common.{◌≡◌, map}
use Rattle.edge_record.proofs.edge_counts.EdgeCounts.said.Given as goal

abbrev pub invariant-loop-pair : goal.invariant-loop-pair
invariant-loop-pair l = l.said.items ≡ map (λ e. (e.0.now.0, e.0.now.1, e.1.now)) l.yielded
