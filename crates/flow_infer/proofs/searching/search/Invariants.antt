use Rattle.std.proofs.Common.{All, ◌<◌, ◌≡◌, length}
use Rattle.flow_infer.proofs.searching.search.Given as goal

abbrev pub invariant-loop-n : goal.invariant-loop-n
invariant-loop-n l = (length l.places.items ≡ l.nodes) × All (λ n. n < l.nodes) l.order.items

abbrev pub invariant-loop-next : goal.invariant-loop-next
invariant-loop-next l = (length l.places.items ≡ l.nodes) × All (λ n. n < l.nodes) l.order.items
