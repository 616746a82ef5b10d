use Rattle.std.proofs.Common.{◌≡◌, take}
use Rattle.std.specs.Prelude.{Contains}
use Rattle.rb_bytes.specs.Lists.{Gains}
use Rattle.rb_bytes.proofs.Gains.{Given}
use Rattle.jump_tables.proofs.labels.labels.Given as goal

abbrev pub invariant-loop-inst : goal.invariant-loop-inst
invariant-loop-inst l =
    Gains l.initial.labels.items l.labels.items
    (Given (λ p a. (p.addr ≡ a) × Contains l.named a) (take l.inst-index l.insts))
