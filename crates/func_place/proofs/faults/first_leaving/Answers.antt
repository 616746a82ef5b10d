use Rattle.std.proofs.Common.{◌≡◌, ◌≢◌, false, get_or, arith, ⊎_elim, sym, subst, ◌∙◌}
use Rattle.std.proofs.lemmas.Bool.{cases_eq}
use Rattle.std.proofs.lemmas.List.{get_or_default}
use Rattle.rv_code.specs.declared.placed.Placed.{Placed}
use Rattle.func_place.specs.Faults.{leaves}
use Rattle.func_place.proofs.faults.first_leaving.Goals as goal

pub loop-inst-preserved : goal.loop-inst-preserved
loop-inst-preserved c = λ k d lt. ⊎_elim
    (λ (e : k ≡ c.loop-inst.inst-index).
    let items = c.deref-inst-items.result.now in
    let here : leaves c.args.func.now (get_or items c.loop-inst.inst-index _) ≡ false =
    sym c.leaves.ensures ∙ c.if-leaves.false in
    rw e (subst (λ (p : Placed). leaves c.args.func.now p ≡ false)
    (get_or_default items c.loop-inst.inst-index _ d c.loop-inst-test.true) here))
    (λ (ne : k ≢ c.loop-inst.inst-index). c.loop-inst.invariant k d (omega arith))
    (cases_eq k c.loop-inst.inst-index)
