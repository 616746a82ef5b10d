use Rattle.std.proofs.Common.{◌+◌, arith, refl}
use Rattle.std.proofs.lemmas.Option.{slice_get_read}
use Rattle.func_place.specs.internal.TieList.{TiesFrom, TiesOf}
use Rattle.rb_bytes.proofs.Gains.{gains_same}
use Rattle.func_place.proofs.Gained.{gains_both}
use Rattle.func_place.proofs.TieSets.{TiesOfBelow, below_next, below_all}
use Rattle.func_place.proofs.ties.put_ties_of.Goals as goal

pub loop-i-preserved : goal.loop-i-preserved
loop-i-preserved c = gains_both c.args.ties.now.items c.loop-i.ties.items c.put_ties_from.new.ties.items
    (TiesOfBelow c.args.funcs.now c.args.place c.loop-i.i) (TiesFrom c.args.funcs.now c.args.place c.loop-i.i)
    (TiesOfBelow c.args.funcs.now c.args.place (c.loop-i.i + 1))
    (below_next c.args.funcs.now c.args.place c.loop-i.i) c.loop-i.invariant c.in_ok-put_ties_from.ensures

pub returns : goal.returns
returns c =
    let ok = c.index-funcs-place.result.insts.ok.0 in
    gains_same c.args.ties.now.items c.loop-i.ties.items (TiesOfBelow c.args.funcs.now c.args.place c.loop-i.i)
    (TiesOf c.args.funcs.now c.args.place)
    (below_all c.args.funcs.now c.args.place c.loop-i.i c.index-funcs-place.result
    (slice_get_read c.args.funcs.now _ c.args.place c.index-funcs-place.result refl c.requires.inside c.index-funcs-place.is)
    (omega arith)) c.loop-i.invariant
