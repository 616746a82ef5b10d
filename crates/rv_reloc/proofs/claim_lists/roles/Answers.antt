use Rattle.std.proofs.Common.{sym, subst, List, arith}
use Rattle.std.proofs.lemmas.Grind.{common_steps}
use Rattle.rv_reloc.specs.declared.roles.Claim.{Claim}
use Rattle.rv_reloc.specs.Claims.{AreClaims}
use Rattle.rv_reloc.proofs.ClaimLists.{AreClaims-sorted}
use Rattle.rv_reloc.proofs.claim_lists.roles.Goals as goal

pub returns : goal.returns
returns c =
    c.first_roles.ensures c.args.elf.now
    (subst (λ (claims : List Claim). AreClaims c.args.elf.now claims) (sym c.deref.ensures.value)
    (AreClaims-sorted c.args.elf.now c.args.records.now _ _ c.requires.records c.in_ok-claims.ensures
    c.in_ok-sort_claims.ensures.permutation c.in_ok-sort_claims.ensures.ordered))

pub first_roles-requires : goal.first_roles-requires
first_roles-requires c = grind (arith, common_steps)
