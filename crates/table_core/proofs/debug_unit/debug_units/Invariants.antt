use Rattle.std.proofs.Common.{◌≡◌, ◌+◌, ◌-◌, ◌++◌, length}
use Rattle.table_core.specs.DebugUnits.{units_from, walked}
use Rattle.table_core.proofs.debug_unit.debug_units.Given as goal

abbrev pub invariant-loop-count : goal.invariant-loop-count
invariant-loop-count l = (l.units.items ++ units_from (l.count-end - l.count) l.fn.version l.place l.left ≡ walked l.fn.version
    l.fn.section)
    × (l.place + length l.left ≡ length l.fn.section)
