use Rattle.std.proofs.Common.{take}
use Rattle.rv_code.specs.layout.ProgramCode.{RoleNames}
use Rattle.rb_bytes.specs.Lists.{Gains}
use Rattle.rb_bytes.proofs.Gains.{Given}
use Rattle.func_find.proofs.referred.push_roles.Given as goal

abbrev pub invariant-loop-role : goal.invariant-loop-role
invariant-loop-role l =
    Gains l.initial.addresses.items l.addresses.items (Given (λ r a. RoleNames r.1 a) (take l.role-index l.roles))
