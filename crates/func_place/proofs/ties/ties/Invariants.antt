use Rattle.std.proofs.Common.{[]}
use Rattle.rb_bytes.specs.Lists.{Gains}
use Rattle.func_place.proofs.TieSets.{TiesBelow}
use Rattle.func_place.proofs.ties.ties.Given as goal

abbrev pub invariant-loop-place : goal.invariant-loop-place
invariant-loop-place l = Gains [] l.ties.items (TiesBelow l.funcs l.place)
