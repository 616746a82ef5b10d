-- The paths of the files of line units. DWARF 5, section 6.2.4.
use Rattle.std.specs.Prelude.{◌==◌, ℕ, List, Option, option_and_then, slice_get}
use Rattle.std.specs.List.{find}
use Rattle.table_core.specs.DebugUnits.{Walked, walked}
use Rattle.line_rewrite.specs.Entries.{path_of}
use Rattle.line_rewrite.specs.Tables.{LineSections}
use Rattle.line_rewrite.specs.LineUnits.{LineUnit, unit_in}

-- The line unit at an offset.
abbrev pub line_unit_at : LineSections → ℕ → Option LineUnit
line_unit_at s offset =
    option_and_then (unit_in s.strings) (find (λ (w : Walked). w.place == offset) (walked 5 s.line))

-- The path of a file of a unit, by its index.
abbrev pub file_path : LineUnit → ℕ → Option (List ℕ)
file_path u index = option_and_then (path_of u.directories) (slice_get u.files index)

-- The path of a file of the unit at an offset.
abbrev pub path_at : LineSections → ℕ → ℕ → Option (List ℕ)
path_at s offset index = option_and_then (λ u. file_path u index) (line_unit_at s offset)
