use Rattle.std.proofs.Common.{◌≡◌, subst, List, Some, false, arith}
use Rattle.std.specs.Prelude.{Any}
use Rattle.rv_code.specs.declared.placed.Placed.{Placed}
use Rattle.rv_code.specs.layout.Flow.{target_of}
use Rattle.rv_code.specs.layout.FunctionMembers.{func_holds}
use Rattle.rb_bytes.specs.Lists.{Gains}
use Rattle.rb_bytes.proofs.Gains.{gains_next, gains_all}
use Rattle.flow_infer.proofs.entries.push_far_targets.Goals as goal

pub loop-func-preserved : goal.loop-func-preserved
loop-func-preserved c =
    gains_next (λ f a. Any (λ p. (target_of p ≡ Some a) × (func_holds a f ≡ false)) f.insts.items) c.args.funcs.now
    c.loop-func.func-index c.func-item.result c.func-item.result _ _ _ c.loop-func-test.true c.func-item.is
    (subst (λ (ps : List Placed). Gains c.loop-func.addresses.items c.push_far_targets_of.new.addresses.items (λ a. Any
    (λ p. (target_of p ≡ Some a) × (func_holds a c.func-item.result ≡ false)) ps)) c.deref.ensures.value
    c.in_ok-push_far_targets_of.ensures)
    c.loop-func.invariant

pub returns : goal.returns
returns c =
    gains_all (λ f a. Any (λ p. (target_of p ≡ Some a) × (func_holds a f ≡ false)) f.insts.items) c.args.funcs.now
    c.loop-func.func-index _ _ (omega arith) c.loop-func.invariant
