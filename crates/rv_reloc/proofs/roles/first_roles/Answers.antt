use Rattle.std.proofs.Common.{arith}
use Rattle.std.proofs.lemmas.List.{get_or_default}
use Rattle.rv_reloc.proofs.FirstRoles.{roles_begin, roles_skip, roles_push, roles_all}
use Rattle.rv_reloc.proofs.roles.first_roles.Goals as goal

pub loop-index-init : goal.loop-index-init
loop-index-init c = roles_begin c.args.claims.now _ c.new-roles.ensures.items

pub loop-index-preserved-then-not-is_first : goal.loop-index-preserved-then-not-is_first
loop-index-preserved-then-not-is_first c =
    roles_skip c.args.claims.now _ c.loop-index.index
    (λ first. let passes = c.is_first.ensures.1 first in let fails = c.if-not-is_first.true in absurd (cc)) c.loop-index.invariant

pub loop-index-preserved : goal.loop-index-preserved
loop-index-preserved c =
    roles_push c.args.claims.now _ _ c.loop-index.index _ c.loop-index-test.true (get_or_default _ _ _ _ c.loop-index-test.true)
    (c.is_first.ensures.0 c.if-not-is_first.false) c.in_ok-push.ensures.items c.loop-index.invariant

pub returns : goal.returns
returns c = λ elf are. roles_all elf c.args.claims.now _ c.loop-index.index are (omega arith) c.loop-index.invariant
