-- Two line units without contents, at 0 and 6. The second one moves to 10.
use Rattle.std.proofs.Common.{◌≡◌, ℕ, List, [], ◌∷◌, refl}
use Rattle.table_core.specs.declared.written.TheConstants.{DW_AT_stmt_list}
use Rattle.table_core.specs.declared.written.ListAt.{ListAt}
use Rattle.table_core.specs.DebugUnits.{units_from}
use Rattle.line_rewrite.specs.KeptLineUnits.{unit_number}
use Rattle.line_rewrite.specs.Tables.{LineSections}
use Rattle.table_set.specs.KeptData.{new_line_offset}

section : List ℕ
section = 2 ∷ 0 ∷ 0 ∷ 0 ∷ 5 ∷ 0 ∷ 2 ∷ 0 ∷ 0 ∷ 0 ∷ 5 ∷ 0 ∷ []

abbrev sections : LineSections
sections = record { line = section; strings = record { str = []; line_str = [] } }

abbrev unit_list : ℕ → ℕ → ListAt
unit_list entry offset = record { entry = entry; attr = DW_AT_stmt_list; offset = offset }

abbrev lists : List ListAt
lists = unit_list 0 0 ∷ unit_list 6 10 ∷ []

first_unit : unit_number sections 0 ≡ 0
unfolding section units_from
first_unit = refl

second_unit : unit_number sections 6 ≡ 1
unfolding section units_from
second_unit = refl

-- The number of units means none.
no_unit : unit_number sections 4 ≡ 2
unfolding section units_from
no_unit = refl

moved_offset : new_line_offset lists 6 ≡ 10
moved_offset = refl

-- An offset of no unit becomes such an offset.
no_offset : new_line_offset lists 4 ≡ 0xffffffff
no_offset = refl
