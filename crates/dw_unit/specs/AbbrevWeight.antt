-- The weight of the written `.debug_abbrev`, which bounds its size.
use Rattle.std.specs.Prelude.{◌-◌, ◌*◌, ℕ, sum_by, unwrap_or}
use Rattle.dw_unit.specs.Changes.{table_offsets}
use Rattle.dw_unit.specs.Declarations.{table_at}
use Rattle.dw_unit.specs.CompUnits.{Sections}

-- Three times the number of bytes of the table at `offset`, its closing zero included.
abbrev pub table_weight : Sections → ℕ → ℕ
table_weight s offset = 3 * (unwrap_or (table_at s.abbrevs offset).end offset - offset)

-- The sum over all abbreviation offsets of units.
abbrev pub abbrev_weight : Sections → ℕ
abbrev_weight s = sum_by (table_weight s) (table_offsets s)
