-- Lists of spans compared with lists of instructions, and the bytes of spans.
use Rattle.std.specs.Prelude.{◌≡◌, ℕ, ◌+◌, ◌<◌, ◌==◌, min, Contains, All, slice_index_or, List, [], ◌∷◌, Option, Some}
use Rattle.std.specs.Prelude.{None, map, if◌then◌else◌}
use Rattle.rv_code.specs.declared.placed.Func.{Func}
use Rattle.rv_code.specs.layout.Flow.{insts_of}
use Rattle.elf_image.specs.declared.extent.Extent.{Extent}
use Rattle.elf_image.specs.internal.Extents.{HavePlaces}
use Rattle.addr_map.specs.declared.span.Span.{Span}

-- the addresses of the instructions of functions
abbrev pub addresses : List Func → List ℕ
addresses funcs = map (λ p. p.addr) (insts_of funcs)

-- the first input and address that differ, pair by pair: the lower of the two
abbrev pub first_difference : List Span → List ℕ → Option ℕ
first_difference [] [] = None
first_difference [] (a ∷ bs) = Some a
first_difference (s ∷ spans) [] = Some s.input
first_difference (s ∷ spans) (a ∷ bs) = if s.input == a then first_difference spans bs else Some (min s.input a)

-- the bytes of the span with index k
abbrev pub extent_of : ℕ → Span → Extent
extent_of k s = record { start = s.out; end = s.out + s.len; place = k }

-- a default, for indices past a list's end
abbrev pub no_span : Span
no_span = record { out = 0; len = 0; input = 0 }

abbrev pub span_at : List Span → ℕ → Span
span_at spans k = slice_index_or spans k no_span

-- the byte ranges of the first n spans, without the empty ones, each with the index of its span
pub record AreExtentsOf (spans : List Span) (n : ℕ) (extents : List Extent) : Type 0 where
  pub only : (e : Extent) → Contains extents e →
      (k : ℕ) × (k < n) × (0 < (span_at spans k).len) × (e ≡ extent_of k (span_at spans k))
  pub each : (k : ℕ) → k < n → 0 < (span_at spans k).len → Contains extents (extent_of k (span_at spans k))
  pub apart : HavePlaces extents
  pub some : All (λ e. e.start < e.end) extents
