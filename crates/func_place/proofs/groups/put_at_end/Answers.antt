use Rattle.std.proofs.Common.{arith, ◌∙◌}
use Rattle.std.proofs.lemmas.Grind.{common_steps}
use Rattle.func_place.proofs.Moving.{end_more, front_in, numbers_more}
use Rattle.func_place.proofs.groups.put_at_end.Goals as goal

pub loop-u-preserved : goal.loop-u-preserved
loop-u-preserved c =
    let is = c.in-Some.ensures.items in
    let front = front_in _ _ _ _ c.args.number is c.loop-u.invariant.1 in (
      rw c.in_ok-push_back.ensures.items (end_more c.loop-u.many.items c.loop-u.few.items c.pop_front.new.self.items
          c.args.many.now.items c.args.few.items c.in-Some.u c.loop-u.invariant.0 is),
      front.1,
      λ w lt. numbers_more _ _ _ _ _ w is front.0 ∙ c.loop-u.invariant.2 w (grind (arith, common_steps)),
    )
