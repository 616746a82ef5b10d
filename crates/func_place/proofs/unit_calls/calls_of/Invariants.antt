use Rattle.std.proofs.Common.{◌≡◌, take}
use Rattle.func_place.specs.Placement.{unit_calls}
use Rattle.func_place.proofs.unit_calls.calls_of.Given as goal

abbrev pub invariant-loop-pair : goal.invariant-loop-pair
invariant-loop-pair l = l.calls.items ≡ unit_calls l.funcs l.units (take l.pair-index l.pairs)
