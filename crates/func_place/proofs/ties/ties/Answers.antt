use Rattle.std.proofs.Common.{◌+◌, [], arith}
use Rattle.func_place.specs.internal.TieList.{TiesOf, Ties}
use Rattle.rb_bytes.proofs.Gains.{gains_same}
use Rattle.func_place.proofs.Gained.{gains_both}
use Rattle.func_place.proofs.TieSets.{TiesBelow, funcs_next, funcs_all}
use Rattle.func_place.proofs.ties.ties.Goals as goal

pub loop-place-preserved : goal.loop-place-preserved
loop-place-preserved c =
    gains_both [] c.loop-place.ties.items c.put_ties_of.new.ties.items (TiesBelow c.args.funcs.now c.loop-place.place)
    (TiesOf c.args.funcs.now c.loop-place.place) (TiesBelow c.args.funcs.now (c.loop-place.place + 1))
    (funcs_next c.args.funcs.now c.loop-place.place) c.loop-place.invariant c.in_ok-put_ties_of.ensures

pub returns : goal.returns
returns c = gains_same [] c.loop-place.ties.items (TiesBelow c.args.funcs.now c.loop-place.place) (Ties c.args.funcs.now)
    (funcs_all c.args.funcs.now c.loop-place.place (omega arith)) c.loop-place.invariant
