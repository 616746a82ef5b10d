use Rattle.func_place.proofs.UnitSums.{AreSums}
use Rattle.func_place.proofs.sums.sums_of.Given as goal

abbrev pub invariant-loop-place : goal.invariant-loop-place
invariant-loop-place l = AreSums l.units l.blocks l.numbers l.place l.sums.items
