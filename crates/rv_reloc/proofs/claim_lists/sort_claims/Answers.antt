use Rattle.std.proofs.Common.{rules}
use Rattle.std.proofs.lemmas.List.Sorted.{answers_always}
use Rattle.rv_reloc.specs.declared.roles.Claim.{Claim}
use Rattle.rv_reloc.proofs.ClaimOrder.{claims-sorted}
use Rattle.rv_reloc.proofs.claim_lists.sort_claims.Goals as goal

pub returns-clause-ordered : goal.returns-clause-ordered
returns-clause-ordered c =
    claims-sorted _
    (c.in_ok-sort_by_key.ensures.sorted (λ (x : Claim). (x.at, (x.kind, x.key)))
    (answers_always _ _ _ (λ f a r f' k. search rules)))
