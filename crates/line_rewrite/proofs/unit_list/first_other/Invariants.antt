use Rattle.std.proofs.Common.{◌≡◌, drop}
use Rattle.table_core.specs.DebugUnits.{first_place}
use Rattle.line_rewrite.proofs.unit_list.first_other.Given as goal

abbrev pub invariant-loop-unit : goal.invariant-loop-unit
invariant-loop-unit l = first_place (λ w. w.is_other) (drop l.unit-index l.units) ≡ first_place (λ w. w.is_other) l.units
