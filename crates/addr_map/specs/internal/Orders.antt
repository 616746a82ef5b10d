-- The spans of a map as columns, ordered by new address and by old address.
use Rattle.std.specs.Prelude.{ℕ, ◌≡◌, ◌⊎◌, ◌*◌, ◌^◌, ◌<◌, ◌≤◌, ◌==◌, if◌then◌else◌, List, [], ◌∷◌, Option, Some, None}
use Rattle.std.specs.Prelude.{AllPairs, length, slice_index}
use Rattle.addr_map.specs.internal.Columns.{IsAscending}
use Rattle.addr_map.specs.declared.span.Span.{Span}
use Rattle.addr_map.specs.Spans.{ShareNoByte}

-- The spans are of different instructions.
abbrev pub AreApart : Span → Span → Type 0
AreApart s t = s.input ≡ t.input → ⊥

-- The spans whose fields are the members of three columns.
abbrev pub column_spans : List ℕ → List ℕ → List ℕ → List Span
column_spans [] lens inputs = []
column_spans (out ∷ outs) [] inputs = []
column_spans (out ∷ outs) (len ∷ lens) [] = []
column_spans (out ∷ outs) (len ∷ lens) (input ∷ inputs) =
    record { out = out; len = len; input = input } ∷ column_spans outs lens inputs

-- The holder of index `i` is the index of the last span up to `i` that has bytes, or 0 if there is none.
pub record IsHolder (lens : List ℕ) (i holder : ℕ) : Type 0 where
  pub within : holder ≤ i
  pub last : (j : ℕ) → holder < j → j ≤ i → slice_index lens j ≡ 0
  pub has : (0 < slice_index lens holder) ⊎ (holder ≡ 0)

-- Columns ordered by new address, of spans that fit in memory.
pub record IsByNew (outs lens inputs holders : List ℕ) : Type 0 where
  pub few : 24 * length outs < 2 ^ 63
  pub ascending : IsAscending outs
  pub lens_count : length lens ≡ length outs
  pub inputs_count : length inputs ≡ length outs
  pub holders_count : length holders ≡ length outs
  pub held : (i : ℕ) → i < length outs → IsHolder lens i (slice_index holders i)
  pub disjoint : AllPairs ShareNoByte (column_spans outs lens inputs)

-- Each member is greater than all members before it.
abbrev pub IsRising : List ℕ → Type 0
IsRising xs = (i j : ℕ) → i < j → j < length xs → slice_index xs i < slice_index xs j

-- The new address of the instruction at `a`, from a column of old addresses and a column of new addresses.
abbrev pub moved_in : List ℕ → List ℕ → ℕ → Option ℕ
moved_in [] outs a = None
moved_in (input ∷ inputs) [] a = None
moved_in (input ∷ inputs) (out ∷ outs) a = if input == a then Some out else moved_in inputs outs a
