use Rattle.std.proofs.Common.{take}
use Rattle.rb_bytes.specs.Lists.{Gains}
use Rattle.func_find.specs.Referents.{GoesTo}
use Rattle.rb_bytes.proofs.Gains.{Given}
use Rattle.func_find.proofs.referred.push_targets_of.Given as goal

abbrev pub invariant-loop-from : goal.invariant-loop-from
invariant-loop-from l =
    Gains l.initial.addresses.items l.addresses.items (Given (λ from a. GoesTo l.elf l.end from a) (take l.from-index l.froms))
