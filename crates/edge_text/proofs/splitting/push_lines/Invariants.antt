use Rattle.std.proofs.Common.{◌≡◌, ◌++◌, map, replicate}
use Rattle.edge_text.specs.LineCounts.{most_of_line}
use Rattle.edge_text.proofs.splitting.push_lines.Given as goal

abbrev pub invariant-loop : goal.invariant-loop
invariant-loop l = l.lines.items ≡ l.fn.lines.items ++ map (λ n. (l.from, l.to, n)) (replicate l.counter most_of_line)
