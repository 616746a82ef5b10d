-- Tables of `.debug_aranges` as they are written. DWARF 5, sections 6.1.2 and 7.21.
use Rattle.std.specs.Prelude.{◌==◌, ◌++◌, ℕ, zero, suc, List, [], ◌∷◌, if◌then◌else◌, length, take, drop, flat_map}
use Rattle.byteorder.specs.Endian.{little_bytes}
use Rattle.answer_runs.specs.declared.run.Run.{Run}
use Rattle.addr_rewrite.specs.declared.stretch.Stretch.{Stretch}

-- A run as a stretch of its unit.
abbrev pub stretch_of : Run ℕ → Stretch
stretch_of r = record { unit = r.answer; start = r.start; len = r.len }

-- Pairs of an address and a length, and two zeros.
unfoldable pub pairs_bytes : List Stretch → List ℕ
pairs_bytes [] = little_bytes 8 0 ++ little_bytes 8 0
pairs_bytes (s ∷ ss) = little_bytes 8 s.start ++ (little_bytes 8 s.len ++ pairs_bytes ss)

-- A table after its length: version 2, the unit's offset, an address size of 8 and a segment selector size of 0, and
-- the pairs, of which the first is at a multiple of 16 bytes from the table's start.
unfoldable pub table_bytes : ℕ → List Stretch → List ℕ
table_bytes unit ss =
    little_bytes 2 2 ++ (little_bytes 4 unit ++ (little_bytes 2 8 ++ (little_bytes 4 0 ++ pairs_bytes ss)))

-- The number of stretches at the front that are of a unit.
abbrev pub count_of : ℕ → List Stretch → ℕ
count_of unit [] = 0
count_of unit (s ∷ ss) = if s.unit == unit then suc (count_of unit ss) else 0

-- A table for each unit, if the stretches of a unit follow one another; at most `n`.
unfoldable pub tables_of : ℕ → List Stretch → List (List ℕ)
tables_of n [] = []
tables_of zero (s ∷ ss) = []
tables_of (suc n) (s ∷ ss) =
    table_bytes s.unit (s ∷ take (count_of s.unit ss) ss) ∷ tables_of n (drop (count_of s.unit ss) ss)

-- Tables, each after its length.
abbrev pub spelled_table : List ℕ → List ℕ
spelled_table bytes = little_bytes 4 (length bytes) ++ bytes

abbrev pub spelled_tables : List (List ℕ) → List ℕ
spelled_tables tables = flat_map spelled_table tables
