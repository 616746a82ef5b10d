use Rattle.std.proofs.Common.{refl, arith}
use Rattle.rv_code.specs.declared.placed.Role.TheVariants.{Plain}
use Rattle.rv_code.specs.layout.ProgramCode.{RoleNames}
use Rattle.rb_bytes.proofs.Gains.{gains_next, gains_all, gains_same}
use Rattle.func_find.proofs.referred.push_roles.Goals as goal

pub loop-role-preserved : goal.loop-role-preserved
loop-role-preserved c =
    gains_next (λ r a. RoleNames r.1 a) c.args.roles.now c.loop-role.role-index _ (0, Plain) _ _ _ c.loop-role-test.true refl
    (gains_same _ _ _ _ c.role_target.ensures c.in_ok-push_some.ensures.gains) c.loop-role.invariant

pub returns : goal.returns
returns c = gains_all (λ r a. RoleNames r.1 a) c.args.roles.now c.loop-role.role-index _ _ (omega arith) c.loop-role.invariant
