use Rattle.std.proofs.Common.{◌≡◌, ◌-◌, ◌^◌, take, min}
use Rattle.std.specs.Prelude.{sum_by}
use Rattle.dw_unit.specs.AbbrevWeight.{table_weight}
use Rattle.dw_unit.specs.CompUnits.{Sections}
use Rattle.dw_unit.proofs.weight.sum_weights.Given as goal

abbrev pub invariant-loop-offset : goal.invariant-loop-offset
invariant-loop-offset l = (s : Sections) → s.abbrevs ≡ l.tables.section.now →
    l.weight ≡ min (sum_by (table_weight s) (take l.offset-index l.offsets)) (2 ^ 64 - 1)
