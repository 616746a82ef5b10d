-- The abbreviation offsets in unit headers.
use Rattle.std.specs.Prelude.{◌==◌, ℕ, Bool, false, List, Option, Some, None, Ok, Err}
use Rattle.std.specs.List.{list_any}
use Rattle.std.specs.Option.{option_map_or}
use Rattle.table_core.specs.DebugUnits.{Walked}
use Rattle.dw_unit.specs.CompUnits.{header_of}
use Rattle.dw_unit.specs.Trouble.{Read}

abbrev pub offset_read : Read ℕ → Option ℕ
offset_read (Ok read) = Some read.0
offset_read (Err e) = None

-- The abbreviation offset in a unit's header, if the header can be read.
abbrev pub offset_of : Walked → Option ℕ
offset_of w = offset_read (header_of w)

abbrev pub is_of : ℕ → Option ℕ → Bool
is_of q o = option_map_or (λ (n : ℕ). n == q) o false

-- Some unit's header has the abbreviation offset `q`.
abbrev pub is_named_by : ℕ → List Walked → Bool
is_named_by q ws = list_any (λ w. is_of q (offset_of w)) ws
