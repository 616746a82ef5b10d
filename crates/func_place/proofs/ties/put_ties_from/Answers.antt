use Rattle.std.proofs.Common.{ℕ, ◌<◌, ◌+◌, sym, subst, refl, Option}
use Rattle.std.specs.Prelude.{◌^◌}
use Rattle.std.proofs.lemmas.Option.{slice_get_read}
use Rattle.rv_code.specs.declared.placed.Placed.{Placed}
use Rattle.rv_code.specs.layout.Flow.{fall_target, target_of}
use Rattle.rb_bytes.specs.Lists.{Gains}
use Rattle.func_place.specs.internal.TieList.{TiesFrom}
use Rattle.func_place.proofs.InstOrder.{inst_below}
use Rattle.func_place.proofs.Gained.{gains_both}
use Rattle.func_place.proofs.TieSets.{TiesTo, from_both}
use Rattle.func_place.proofs.ties.put_ties_from.Goals as goal

pub fall_target-requires-clause-room : goal.fall_target-requires-clause-room
fall_target-requires-clause-room c =
    subst (λ (p : Placed). p.addr + p.len < 2 ^ 64) (sym c.index-inst.ensures) (inst_below c.args.funcs.now c.args.place c.args.i
    c.args.func.now c.index-inst.result.now c.requires.funcs c.requires.is_func c.requires.i_in)

pub returns : goal.returns
returns c =
    let funcs = c.args.funcs.now in
    let place = c.args.place in
    let func = c.args.func.now in
    let inst = c.index-inst.result.now in
    let is_inst = slice_get_read func.insts.items _ c.args.i inst refl c.requires.i_in c.index-inst.ensures in
    let First : Option ℕ → Type 0 = λ o. Gains c.args.ties.now.items c.put_tie.new.ties.items (TiesTo funcs place o) in
    let Second : Option ℕ → Type 0 = λ o. Gains c.put_tie.new.ties.items c.put_tie-2.new.ties.items (TiesTo funcs place o) in
    gains_both c.args.ties.now.items c.put_tie.new.ties.items c.put_tie-2.new.ties.items (TiesTo funcs place (target_of inst))
    (TiesTo funcs place (fall_target func c.args.i inst)) (TiesFrom funcs place c.args.i)
    (from_both funcs place c.args.i func inst c.requires.is_func is_inst)
    (subst First c.target.ensures c.in_ok-put_tie.ensures)
    (subst Second c.fall_target.ensures c.in_ok-put_tie-2.ensures)
