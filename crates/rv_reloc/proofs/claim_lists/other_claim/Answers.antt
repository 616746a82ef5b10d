use Rattle.rv_reloc.specs.Records.{seen}
use Rattle.rv_reloc.proofs.ClaimLists.{claims_kind}
use Rattle.rv_reloc.proofs.claim_lists.other_claim.Goals as goal

pub returns-clause-each : goal.returns-clause-each
returns-clause-each c = λ key role claims.
    absurd (claims_kind c.args.elf.now (seen c.args.relocation.now) _ key role c.requires.kind
    (λ is. let e = c.is_pcrel_hi.ensures in let f = c.if-is_pcrel_hi.false in cc)
    (λ is. let e = c.is_pcrel_lo.ensures in let f = c.if-is_pcrel_lo.false in cc)
    (λ is. let e = c.is_absolute.ensures in let f = c.if-is_absolute.false in cc)
    claims)

pub upper_claim-requires-clause-fits : goal.upper_claim-requires-clause-fits
upper_claim-requires-clause-fits c = c.requires.fits (seen c.args.relocation.now) c.requires.counts

pub absolute_claim-requires-clause-fits : goal.absolute_claim-requires-clause-fits
absolute_claim-requires-clause-fits c = c.requires.fits (seen c.args.relocation.now) c.requires.counts
