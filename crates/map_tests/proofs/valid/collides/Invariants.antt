use Rattle.std.proofs.Common.{ℕ, ◌<◌, get_or}
use Rattle.addr_map.specs.declared.span.Span.{Span}
use Rattle.map_tests.specs.SpanPairs.{AreSeparate}
use Rattle.map_tests.proofs.valid.collides.Given as goal

abbrev pub invariant-loop-i : goal.invariant-loop-i
invariant-loop-i l = (i : ℕ) → (d : Span) → i < l.i → AreSeparate (get_or l.spans i d) (get_or l.spans l.j d)
