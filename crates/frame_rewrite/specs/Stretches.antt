-- Stretches of new code of one entry, which are the entries of a table that is written.
use Rattle.std.specs.Prelude.{◌≡◌, ◌+◌, ◌<◌, ℕ, IsTrue, List, All, Contains, Some}
use Rattle.addr_map.specs.declared.span.Span.{Span}
use Rattle.addr_map.specs.Spans.{owner}
use Rattle.answer_runs.specs.declared.range.Range.{Range}
use Rattle.answer_runs.specs.AddressRanges.{holds_address}
use Rattle.cfi_rows.specs.Entries.{Fde, is_in_range, range_of}
use Rattle.frame_rewrite.specs.Index.{AreApart}

-- a byte of new code belongs to an instruction that an entry holds
abbrev pub IsOf : List Span → Fde → ℕ → Type 0
IsOf spans f p = (o : ℕ) × (owner spans p ≡ Some o) × IsTrue (is_in_range f o)

-- A longest stretch of new code of one entry: each byte of a range is of it, and neither the byte before the range nor
-- the one after it is.
pub record IsStretchOf (spans : List Span) (f : Fde) (r : Range) : Type 0 where
  pub some : r.low < r.high
  pub all : (p : ℕ) → IsTrue (holds_address p r) → IsOf spans f p
  pub before : (p : ℕ) → p + 1 ≡ r.low → IsOf spans f p → ⊥
  pub after : IsOf spans f r.high → ⊥

-- no instruction is in two entries
abbrev pub AreApartAt : List Span → List Fde → Type 0
AreApartAt spans list = (s : Span) (f g : Fde) → Contains spans s → Contains list f → Contains list g →
    IsTrue (is_in_range f s.input) → IsTrue (is_in_range g s.input) → f ≡ g

-- The entries of a table are the longest stretches of new code of the entries of another: each is of one of these, each
-- stretch is one, and no two of them share an address. So none holds new code of two, and there are as many as
-- stretches.
pub record AreStretches (spans : List Span) (old new : List Fde) : Type 0 where
  pub each : All (λ g. (f : Fde) × Contains old f × IsStretchOf spans f (range_of g)) new
  pub every : (f : Fde) (r : Range) → Contains old f → IsStretchOf spans f r →
      (g : Fde) × Contains new g × (range_of g ≡ r)
  pub apart : AreApart new
