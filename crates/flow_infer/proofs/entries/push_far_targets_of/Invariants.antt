use Rattle.std.proofs.Common.{◌≡◌, Some, false, take}
use Rattle.rv_code.specs.layout.Flow.{target_of}
use Rattle.rv_code.specs.layout.FunctionMembers.{func_holds}
use Rattle.rb_bytes.specs.Lists.{Gains}
use Rattle.rb_bytes.proofs.Gains.{Given}
use Rattle.flow_infer.proofs.entries.push_far_targets_of.Given as goal

abbrev pub invariant-loop-inst : goal.invariant-loop-inst
invariant-loop-inst l = Gains l.initial.addresses.items l.addresses.items
    (Given (λ p a. (target_of p ≡ Some a) × (func_holds a l.func ≡ false)) (take l.inst-index l.insts))
