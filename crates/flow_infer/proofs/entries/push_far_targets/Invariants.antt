use Rattle.std.proofs.Common.{◌≡◌, Some, false, take}
use Rattle.std.specs.Prelude.{Any}
use Rattle.rv_code.specs.layout.Flow.{target_of}
use Rattle.rv_code.specs.layout.FunctionMembers.{func_holds}
use Rattle.rb_bytes.specs.Lists.{Gains}
use Rattle.rb_bytes.proofs.Gains.{Given}
use Rattle.flow_infer.proofs.entries.push_far_targets.Given as goal

abbrev pub invariant-loop-func : goal.invariant-loop-func
invariant-loop-func l = Gains l.initial.addresses.items l.addresses.items
    (Given (λ f a. Any (λ p. (target_of p ≡ Some a) × (func_holds a f ≡ false)) f.insts.items) (take l.func-index l.funcs))
