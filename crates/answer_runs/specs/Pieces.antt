-- The addresses divided into pieces: the first range that contains an address is the same for all addresses of a piece.
use Rattle.std.specs.Prelude.{◌≤◌, ◌<◌, ℕ, List, [], ◌∷◌, nat_le, if◌then◌else◌, Option, length, slice_index_or}
use Rattle.answer_runs.specs.declared.pieces.Piece.{Piece}

-- The value of the last piece that starts at or below an address, or `before` if there is none.
unfoldable pub under : Option ℕ → List Piece → ℕ → Option ℕ
under before [] a = before
under before (p ∷ ps) a = under (if nat_le p.start a then p.first else before) ps a

-- `ps` has a piece at index `i`, and `qs` has none at index `j` that starts before it.
abbrev pub IsNext : List Piece → ℕ → List Piece → ℕ → Type 0
IsNext ps i qs j =
    (i < length ps) × ((d e : Piece) → j < length qs → (slice_index_or ps i d).start ≤ (slice_index_or qs j e).start)
