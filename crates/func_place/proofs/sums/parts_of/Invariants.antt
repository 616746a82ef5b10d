use Rattle.std.proofs.Common.{map}
use Rattle.func_place.specs.internal.Groups.{list_at}
use Rattle.func_place.proofs.UnitSums.{AreEmpty, AreParts}
use Rattle.func_place.proofs.sums.parts_of.Given as goal

abbrev pub invariant-loop-unit : goal.invariant-loop-unit
invariant-loop-unit l = AreEmpty l._unit-index (map (λ w. w.items) l.own.items)

abbrev pub invariant-loop-function : goal.invariant-loop-function
invariant-loop-function l = AreParts l.units (list_at (map (λ w. w.items) l.parts)) l.function (map (λ w. w.items) l.own.items)
