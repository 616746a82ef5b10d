use Rattle.std.proofs.Common.{ℕ, ◌<◌, get_or}
use Rattle.addr_map.specs.declared.span.Span.{Span}
use Rattle.map_tests.specs.SpanPairs.{AreSeparate}
use Rattle.map_tests.proofs.valid.are_of_a_map.Given as goal

abbrev pub invariant-loop-j : goal.invariant-loop-j
invariant-loop-j l = (i j : ℕ) → (d : Span) → i < j → j < l.j → AreSeparate (get_or l.spans i d) (get_or l.spans j d)
