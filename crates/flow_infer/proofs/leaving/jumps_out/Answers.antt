use Rattle.std.proofs.Common.{◌≡◌, false}
use Rattle.rv_code.specs.layout.FunctionMembers.{func_holds}
use Rattle.flow_infer.proofs.FarTargets.{far_is}
use Rattle.flow_infer.proofs.leaving.jumps_out.Goals as goal

pub returns : goal.returns
returns c = far_is _ _ (λ a. func_holds a c.args.func.now ≡ false) _ (c.ends_block.ensures.0 c.if-not-ends_block.false)
    c.far_target.ensures c.is_some.result c.is_some.ensures
