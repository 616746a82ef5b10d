use Rattle.std.proofs.Common.{◌≡◌, ◌-◌, ◌^◌, take}
use Rattle.std.specs.Prelude.{min, sum_by}
use Rattle.dw_lists.specs.IndexedUnits.{table_weight}
use Rattle.dw_lists.proofs.indexed_unit.tables_weight.Given as goal

abbrev pub invariant-loop-unit : goal.invariant-loop-unit
invariant-loop-unit l = l.weight ≡ min (sum_by table_weight (take l.unit-index l.units)) (2 ^ 64 - 1)
