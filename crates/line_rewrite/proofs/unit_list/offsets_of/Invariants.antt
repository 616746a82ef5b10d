use Rattle.std.proofs.Common.{◌≡◌, take, map}
use Rattle.line_rewrite.specs.UnitLists.{place_range}
use Rattle.line_rewrite.proofs.unit_list.offsets_of.Given as goal

abbrev pub invariant-loop-unit : goal.invariant-loop-unit
invariant-loop-unit l = l.ranges.items ≡ map place_range (take l.unit-index l.unit-items)
