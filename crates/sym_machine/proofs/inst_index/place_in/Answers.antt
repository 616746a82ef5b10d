use Rattle.std.proofs.Common.{◌≡◌, ◌∙◌, sym, subst, ap, ◌-◌, ◌<◌, ℕ, length, slice_index_or, arith}
use Rattle.std.proofs.lemmas.List.{get_or_default}
use Rattle.std.proofs.lemmas.Grind.{common_steps}
use Rattle.rv_code.specs.declared.placed.Func.{Func}
use Rattle.rv_code.specs.declared.placed.Placed.{Placed}
use Rattle.sym_machine.proofs.Functions.{placed_at-searched, placed_at-missed, starts_rise, addrs_rise, insts_at}
use Rattle.sym_machine.proofs.inst_index.place_in.Goals as goal

pub starts_up_to-above-requires : goal.starts_up_to-above-requires
starts_up_to-above-requires c = starts_rise c.args.funcs.now c.requires

pub insts_up_to-below-requires : goal.insts_up_to-below-requires
insts_up_to-below-requires c =
    let k = c.starts_up_to-above.result - 1 in
    let within : k < length c.args.funcs.now = omega (arith, c.starts_up_to-above.ensures.bound) in
    let insts : c.deref-insts.result.now ≡ insts_at c.args.funcs.now k c.index-funcs-above.result =
    c.deref-insts.ensures.value ∙ ap (λ (f : Func). f.insts.items) c.index-funcs-above.is in
    addrs_rise c.deref-insts.result.now
    (subst (λ insts. (i j : ℕ) (e : Placed) → i < j → j < length insts →
    (slice_index_or insts i e).addr < (slice_index_or insts j e).addr) (sym insts)
    (λ i j e less inside. c.requires.rising k i j c.index-funcs-above.result e within less inside))

pub returns-then-above-eq0-clause-none : goal.returns-then-above-eq0-clause-none
returns-then-above-eq0-clause-none c =
    let f = c.starts_up_to-above.ensures in
    placed_at-searched c.args.funcs.now c.requires c.args.address c.starts_up_to-above.result f.bound f.below f.above
    (λ j d e some inside at. absurd (let none = c.if-above-eq0.true in omega arith))

pub returns-then-func-address-clause-none : goal.returns-then-func-address-clause-none
returns-then-func-address-clause-none c =
    let f = c.starts_up_to-above.ensures in
    let k = c.starts_up_to-above.result - 1 in
    let within : k < length c.args.funcs.now = omega (arith, f.bound) in
    placed_at-searched c.args.funcs.now c.requires c.args.address c.starts_up_to-above.result f.bound f.below f.above
    (λ j d e some inside at.
    let high = c.requires.to k j d e within inside in
    let past = c.if-func-address.true in
    let here : c.index-funcs-above.result.end ≡ (slice_index_or c.args.funcs.now k d).end =
    ap (λ (x : Func). x.end) (c.index-funcs-above.is ∙ get_or_default c.args.funcs.now k c.index-funcs-above.result d within) in
    omega arith)

pub returns-then-below-eq0-clause-none : goal.returns-then-below-eq0-clause-none
returns-then-below-eq0-clause-none c =
    let f = c.starts_up_to-above.ensures in
    let g = c.insts_up_to-below.ensures in
    placed_at-missed c.args.funcs.now c.requires c.args.address c.starts_up_to-above.result c.insts_up_to-below.result
    c.index-funcs-above.result c.deref-insts.result.now f.bound (omega arith) f.below f.above c.index-funcs-above.is
    c.deref-insts.ensures.value g.bound g.below g.above (λ e some at. absurd (let none = c.if-below-eq0.true in omega arith))

pub returns-then-address_at-address-clause-none : goal.returns-then-address_at-address-clause-none
returns-then-address_at-address-clause-none c =
    let f = c.starts_up_to-above.ensures in
    let g = c.insts_up_to-below.ensures in
    placed_at-missed c.args.funcs.now c.requires c.args.address c.starts_up_to-above.result c.insts_up_to-below.result
    c.index-funcs-above.result c.deref-insts.result.now f.bound (omega arith) f.below f.above c.index-funcs-above.is
    c.deref-insts.ensures.value g.bound g.below g.above (λ e some at. c.if-address_at-address.true (c.address_at.ensures e ∙ at))

pub returns-clause-found : goal.returns-clause-found
returns-clause-found c = grind (arith, common_steps)
