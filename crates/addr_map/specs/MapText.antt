-- The text of a map: one line for each span, ordered by new address.
use Rattle.std.specs.Prelude.{◌≡◌, ◌⊎◌, ℕ, ◌<◌, List, ◌++◌, AllPairs, IsPermutation, flat_map, codes, decimal}
use Rattle.rb_bytes.specs.Text.{hexadecimal}
use Rattle.addr_map.specs.declared.span.Span.{Span}

-- A line: the new address, the number of new bytes, and the old address.
abbrev pub span_line : Span → List ℕ
span_line s = hexadecimal s.out ++ codes " " ++ decimal s.len ++ codes " " ++ hexadecimal s.input ++ codes "\n"

abbrev pub map_text : List Span → List ℕ
map_text spans = flat_map span_line spans

-- Of two spans at one new address an empty one comes first, and of two empty ones the one with the lower old address.
abbrev pub IsEmptyBefore : Span → Span → Type 0
IsEmptyBefore s t = (s.len ≡ 0) × ((0 < t.len) ⊎ ((t.len ≡ 0) × (s.input < t.input)))

abbrev pub IsLineBefore : Span → Span → Type 0
IsLineBefore s t = (s.out < t.out) ⊎ ((s.out ≡ t.out) × IsEmptyBefore s t)

-- `lines` are the spans of a map in the order of their lines.
pub record AreInLineOrder (spans lines : List Span) : Type 0 where
  pub same : IsPermutation spans lines
  pub ordered : AllPairs IsLineBefore lines
