use Rattle.std.proofs.Common.{refl, subst}
use Rattle.std.proofs.lemmas.Option.{slice_get_read, get_or_from_slice_get}
use Rattle.func_place.specs.internal.FirstFaults.{StaysIn}
use Rattle.func_place.proofs.faults.first_kept.Goals as goal

pub returns-in-Some : goal.returns-in-Some
returns-in-Some c = record {
  at = c.loop-func.func-index;
  func = c.func-item.result;
  is_func = slice_get_read c.args.funcs.now _ c.loop-func.func-index c.func-item.result refl c.loop-func-test.true c.func-item.is;
  leaving = c.in-Some.ensures;
  earlier = λ j d lt is. subst StaysIn (get_or_from_slice_get c.args.funcs.now j d d is) (c.loop-func.invariant j d lt);
}
