use Rattle.rv_code.specs.declared.placed.Role.TheVariants.{Plain}
use Rattle.func_find.proofs.PlacedAt.{role_absent}
use Rattle.func_find.proofs.inst_lists.role_at.Goals as goal

pub returns-then-role-address-clause-none : goal.returns-then-role-address-clause-none
returns-then-role-address-clause-none c =
    role_absent c.args.roles.now c.args.address c.count_below-below.result
    (0, Plain) c.requires c.count_below-below.ensures.below c.count_below-below.ensures.above (λ within. c.if-role-address.true)
