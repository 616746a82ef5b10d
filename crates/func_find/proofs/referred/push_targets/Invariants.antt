use Rattle.std.proofs.Common.{take}
use Rattle.rb_bytes.specs.Lists.{Gains}
use Rattle.func_find.specs.Referents.{PartGoesTo}
use Rattle.rb_bytes.proofs.Gains.{Given}
use Rattle.func_find.proofs.referred.push_targets.Given as goal

abbrev pub invariant-loop-part : goal.invariant-loop-part
invariant-loop-part l =
    Gains l.initial.addresses.items l.addresses.items (Given (λ p a. PartGoesTo l.elf p a) (take l.part-index l.parts))
