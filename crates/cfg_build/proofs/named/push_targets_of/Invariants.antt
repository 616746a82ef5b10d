use Rattle.std.proofs.Common.{◌≡◌, Some, take}
use Rattle.rv_code.specs.layout.Flow.{target_of}
use Rattle.rb_bytes.specs.Lists.{Gains}
use Rattle.rb_bytes.proofs.Gains.{Given}
use Rattle.cfg_build.proofs.named.push_targets_of.Given as goal

abbrev pub invariant-loop-inst : goal.invariant-loop-inst
invariant-loop-inst l =
    Gains l.initial.addresses.items l.addresses.items (Given (λ p a. target_of p ≡ Some a) (take l.inst-index l.insts))
