use Rattle.std.proofs.Common.{arith}
use Rattle.std.proofs.lemmas.Grind.{common_steps}
use Rattle.rb_io.proofs.Printing.{TakesAll-take-add}
use Rattle.rb_io.proofs.print.print_all.Goals as goal

pub loop-done-preserved : goal.loop-done-preserved
loop-done-preserved g c = record {
  within = omega (arith, c.in-Took.ensures.within);
  taken = TakesAll-take-add _ _ _ c.args.text.now c.loop-done.done c.in-Took.count c.loop-done.invariant.taken
      (rw c.split_at.ensures.back at c.in-Took.ensures.added);
  never_falls = omega arith;
}

pub returns-clause-all : goal.returns-clause-all
returns-clause-all c = grind (arith, common_steps)
