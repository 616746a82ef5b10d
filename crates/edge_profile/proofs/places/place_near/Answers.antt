use Rattle.std.proofs.Common.{◌≡◌, ◌<◌, ◌-◌, length, arith, sym, subst, AllPairs, false, List}
use Rattle.std.proofs.lemmas.List.{get_or_default}
use Rattle.std.proofs.lemmas.Grind.{common_steps}
use Rattle.rv_code.specs.declared.placed.Func.{Func}
use Rattle.rv_code.specs.declared.placed.Placed.{Placed}
use Rattle.edge_profile.specs.Weights.{starts_at}
use Rattle.rv_code.proofs.lists.Follows.{insts_rise}
use Rattle.edge_profile.proofs.LaidOut.{no_code_at}
use Rattle.edge_profile.proofs.places.place_near.Goals as goal

pub returns-then-below-eq0-clause-none : goal.returns-then-below-eq0-clause-none
returns-then-below-eq0-clause-none c =
    let found = c.count_up_to-below.ensures in
    no_code_at c.args.funcs.now c.requires c.args.address c.count_up_to-below.result found.bound found.below found.above
    (λ d some. absurd (omega arith))

pub inst_at-requires : goal.inst_at-requires
inst_at-requires c =
    let found = c.count_up_to-below.ensures in
    let within : c.count_up_to-below.result - 1 < length c.args.funcs.now = omega (arith, found.bound, c.if-below-eq0.false) in
    subst (λ (insts : List Placed). AllPairs (λ p q. p.addr < q.addr) insts) (sym c.deref.ensures.value)
    (insts_rise _ (c.requires.each (c.count_up_to-below.result - 1) c.index-funcs-func.result within))

pub returns-in_err-inst-clause-none : goal.returns-in_err-inst-clause-none
returns-in_err-inst-clause-none c =
    let found = c.count_up_to-below.ensures in
    let within : c.count_up_to-below.result - 1 < length c.args.funcs.now = omega (arith, found.bound, c.if-below-eq0.false) in
    rw c.from_residual.ensures
    (no_code_at c.args.funcs.now c.requires c.args.address c.count_up_to-below.result found.bound found.below found.above
    (λ d some.
    let here =
    subst (λ (insts : List Placed). starts_at insts c.args.address ≡ false) c.deref.ensures.value c.in_err-inst.ensures.none in
    subst (λ (f : Func). starts_at f.insts.items c.args.address ≡ false)
    (get_or_default c.args.funcs.now (c.count_up_to-below.result - 1) c.index-funcs-func.result d within) here))

pub returns-clause-some : goal.returns-clause-some
returns-clause-some c = grind (arith, common_steps)
