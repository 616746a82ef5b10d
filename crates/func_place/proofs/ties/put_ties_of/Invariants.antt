use Rattle.rb_bytes.specs.Lists.{Gains}
use Rattle.func_place.proofs.TieSets.{TiesOfBelow}
use Rattle.func_place.proofs.ties.put_ties_of.Given as goal

abbrev pub invariant-loop-i : goal.invariant-loop-i
invariant-loop-i l = Gains l.initial.ties.items l.ties.items (TiesOfBelow l.funcs l.fn.place l.i)
