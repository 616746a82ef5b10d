-- The contents of counts of moves.
use Rattle.std.specs.Prelude.{List, map}
use Rattle.edge_profile.specs.PairCounts.{Counted}
use Rattle.edge_record.specs.declared.edge_counts.EdgeCounts.{EdgeCounts}

abbrev pub said_of : EdgeCounts → List Counted
said_of counts = map (λ e. (e.0.0, e.0.1, e.1)) counts.counts.entries
