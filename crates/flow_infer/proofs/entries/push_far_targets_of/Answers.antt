use Rattle.std.proofs.Common.{◌≡◌, refl, Some, false, arith}
use Rattle.rv_code.specs.layout.Flow.{target_of}
use Rattle.rv_code.specs.layout.FunctionMembers.{func_holds}
use Rattle.rb_bytes.proofs.Gains.{gains_next, gains_all, gains_same}
use Rattle.flow_infer.proofs.entries.push_far_targets_of.Goals as goal

pub loop-inst-preserved : goal.loop-inst-preserved
loop-inst-preserved c =
    gains_next (λ p a. (target_of p ≡ Some a) × (func_holds a c.args.func.now ≡ false)) c.args.insts.now c.loop-inst.inst-index
    _ _ _ _ _ c.loop-inst-test.true refl
    (gains_same _ _ _ _ c.far_target.ensures c.in_ok-push_some.ensures.gains)
    c.loop-inst.invariant

pub returns : goal.returns
returns c =
    gains_all (λ p a. (target_of p ≡ Some a) × (func_holds a c.args.func.now ≡ false)) c.args.insts.now c.loop-inst.inst-index
    _ _ (omega arith) c.loop-inst.invariant
