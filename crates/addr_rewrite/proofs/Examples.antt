-- A section of one table with one pair: its answers, and its bytes when written.
use Rattle.std.proofs.Common.{◌≡◌, ℕ, List, [], ◌∷◌, Some, None, refl}
use Rattle.table_core.specs.DebugUnits.{other_version, units_from}
use Rattle.addr_rewrite.specs.Aranges.{bad_table, pairs_within, unit_at}
use Rattle.addr_rewrite.specs.WrittenAranges.{pairs_bytes, spelled_tables, table_bytes, tables_of}
use Rattle.addr_rewrite.specs.declared.stretch.Stretch.{Stretch}

-- After the length: version 2, the unit at 7, an address size of 8, and padding; then 24 bytes at 65656, and the end.
section : List ℕ
section =
    44 ∷ 0 ∷ 0 ∷ 0 ∷ 2 ∷ 0 ∷ 7 ∷ 0 ∷ 0 ∷ 0 ∷ 8 ∷ 0 ∷ 0 ∷ 0 ∷ 0 ∷ 0
    ∷ 120 ∷ 0 ∷ 1 ∷ 0 ∷ 0 ∷ 0 ∷ 0 ∷ 0 ∷ 24 ∷ 0 ∷ 0 ∷ 0 ∷ 0 ∷ 0 ∷ 0 ∷ 0
    ∷ 0 ∷ 0 ∷ 0 ∷ 0 ∷ 0 ∷ 0 ∷ 0 ∷ 0 ∷ 0 ∷ 0 ∷ 0 ∷ 0 ∷ 0 ∷ 0 ∷ 0 ∷ 0 ∷ []

first_byte : unit_at section 65656 ≡ Some 7
unfolding section units_from pairs_within
first_byte = refl

last_byte : unit_at section 65679 ≡ Some 7
unfolding section units_from pairs_within
last_byte = refl

behind : unit_at section 65680 ≡ None
unfolding section units_from pairs_within
behind = refl

is_version : other_version 2 section ≡ None
unfolding section units_from
is_version = refl

is_sound : bad_table section ≡ None
unfolding section units_from pairs_within
is_sound = refl

stretch : Stretch
stretch = record { unit = 7; start = 65656; len = 24 }

written : spelled_tables (tables_of 1 (stretch ∷ [])) ≡ section
unfolding section stretch tables_of table_bytes pairs_bytes
written = refl
