use Rattle.std.proofs.Common.{◌≡◌, refl, sym, subst, slice_index_or, arith}
use Rattle.std.specs.Prelude.{Contains}
use Rattle.rv_code.specs.declared.placed.Placed.{Placed}
use Rattle.rb_bytes.proofs.Gains.{gains_next, gains_all, gains_nothing, gains_one, gains_same}
use Rattle.jump_tables.specs.TablePairs.{IsLabel}
use Rattle.jump_tables.proofs.Collected.{all_gained, labels_are, no_inst}
use Rattle.jump_tables.proofs.labels.labels.Goals as goal

pub loop-inst-preserved-then-not-is_start : goal.loop-inst-preserved-then-not-is_start
loop-inst-preserved-then-not-is_start c =
    let p = slice_index_or c.args.insts.now c.loop-inst.inst-index no_inst in
    gains_next (λ (p : Placed) a. (p.addr ≡ a) × Contains c.args.named.now a) c.args.insts.now c.loop-inst.inst-index p
    no_inst _ _ _
    c.loop-inst-test.true refl
    (gains_nothing _ _ (λ a (at, is_in).
    let is = c.is_start.ensures.1 (subst (Contains c.args.named.now) (sym at) is_in) in
    let not = c.if-not-is_start.true in
    absurd (cc)))
    c.loop-inst.invariant

pub loop-inst-preserved : goal.loop-inst-preserved
loop-inst-preserved c =
    let p = slice_index_or c.args.insts.now c.loop-inst.inst-index no_inst in
    gains_next (λ (p : Placed) a. (p.addr ≡ a) × Contains c.args.named.now a) c.args.insts.now c.loop-inst.inst-index p
    no_inst _ _ _
    c.loop-inst-test.true refl
    (gains_same _ _ (λ a. p.addr ≡ a) (λ a. (p.addr ≡ a) × Contains c.args.named.now a) (λ a. (
      (λ at. (at, subst (Contains c.args.named.now) at (c.is_start.ensures.0 c.if-not-is_start.false))),
      (λ (at, is_in). at),
    ))
    (gains_one _ _ p.addr c.in_ok-push.ensures.items))
    c.loop-inst.invariant

pub returns : goal.returns
returns c =
    all_gained (IsLabel c.args.insts.now c.args.named.now) c.new-labels.result.items _ _ c.new-labels.ensures.items
    (gains_same _ _ _ _ (labels_are c.args.insts.now c.args.named.now)
    (gains_all (λ (p : Placed) a. (p.addr ≡ a) × Contains c.args.named.now a) c.args.insts.now c.loop-inst.inst-index _ _
    (let upto = c.loop-inst.auto.inst-index-end in omega arith) c.loop-inst.invariant))
    (λ a. ((λ is. is), (λ is. is)))
