use Rattle.std.proofs.Common.{◌≡◌, ◌∙◌, sym, refl, Some, arith}
use Rattle.rv_code.specs.layout.Flow.{target_of}
use Rattle.rb_bytes.proofs.Gains.{gains_next, gains_all, gains_same}
use Rattle.cfg_build.proofs.named.push_targets_of.Goals as goal

pub loop-inst-preserved : goal.loop-inst-preserved
loop-inst-preserved c =
    gains_next (λ p a. target_of p ≡ Some a) c.args.insts.now c.loop-inst.inst-index _ _ _ _ _ c.loop-inst-test.true refl
    (gains_same _ _ _ _ (λ a. ((λ is. sym c.target.ensures ∙ is), (λ is. c.target.ensures ∙ is))) c.in_ok-push_some.ensures.gains)
    c.loop-inst.invariant

pub returns : goal.returns
returns c =
    gains_all (λ p a. target_of p ≡ Some a) c.args.insts.now c.loop-inst.inst-index _ _ (omega arith) c.loop-inst.invariant
