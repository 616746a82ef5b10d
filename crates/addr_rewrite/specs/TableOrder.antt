-- Tables follow one another in their section.
use Rattle.std.specs.Prelude.{◌≤◌, ◌+◌, ℕ, List, [], ◌∷◌, length}
use Rattle.std.specs.Option.{option_map_or}
use Rattle.table_core.specs.DebugUnits.{Walked}

-- The end of the bytes of a table, or its start if it has none.
abbrev pub bytes_end : Walked → ℕ
bytes_end w = option_map_or (λ (bytes : List ℕ). w.place + 4 + length bytes) w.bytes w.place

-- The tables follow one another between the offsets `from` and `to`.
abbrev pub AreInOrder : (from to : ℕ) → List Walked → Type 0
AreInOrder from to [] = from ≤ to
AreInOrder from to (w ∷ ws) = (from ≤ w.place) × (bytes_end w ≤ to) × AreInOrder (bytes_end w) to ws
