use Rattle.func_place.specs.internal.TieList.{TiesAt}
use Rattle.rb_bytes.proofs.Gains.{gains_nothing, gains_one, gains_same}
use Rattle.func_place.proofs.TieSets.{at_found}
use Rattle.func_place.proofs.ties.put_tie_at.Goals as goal

pub returns-in_ok-push : goal.returns-in_ok-push
returns-in_ok-push c =
    let (is, other) = (c.other_function_at.ensures c.in-Some.other).0 c.in-Some.is in
    gains_same c.args.ties.now.items c.push.new.self.items _ _
    (at_found c.args.funcs.now c.args.place c.args.address c.in-Some.other is other)
    (gains_one c.args.ties.now.items c.push.new.self.items (c.args.place, c.in-Some.other) c.in_ok-push.ensures.items)

pub returns-in_default : goal.returns-in_default
returns-in_default c = gains_nothing c.args.ties.now.items (TiesAt c.args.funcs.now c.args.place c.args.address) (λ t ties.
    c.in_default.not-Some t.1 ((c.other_function_at.ensures t.1).1 (ties.into, ties.other)))
