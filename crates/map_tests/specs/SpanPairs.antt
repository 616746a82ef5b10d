-- The preconditions of a map on pairs of its spans.
use Rattle.std.specs.Prelude.{ℕ, ◌≢◌, ◌<◌, List, slice_index_or}
use Rattle.addr_map.specs.Spans.{ShareNoByte}
use Rattle.addr_map.specs.declared.span.Span.{Span}

pub record AreSeparate (s t : Span) : Type 0 where
  pub apart : s.input ≢ t.input
  pub disjoint : ShareNoByte s t

-- Span number j is separate from each span before it.
abbrev pub IsSeparateFromFormer : List Span → ℕ → Type 0
IsSeparateFromFormer spans j = (i : ℕ) (d : Span) → i < j →
    AreSeparate (slice_index_or spans i d) (slice_index_or spans j d)
