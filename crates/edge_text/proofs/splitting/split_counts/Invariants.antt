use Rattle.std.proofs.Common.{◌≡◌, take}
use Rattle.edge_text.specs.LineCounts.{split_counts}
use Rattle.edge_text.proofs.splitting.split_counts.Given as goal

abbrev pub invariant-loop-pair : goal.invariant-loop-pair
invariant-loop-pair l = l.lines.items ≡ split_counts (take l.pair-index l.pairs)
