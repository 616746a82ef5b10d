use Rattle.rv_reloc.specs.Records.{seen}
use Rattle.rv_reloc.proofs.CallClaims.{lo_view}
use Rattle.rv_reloc.proofs.claim_lists.claims_at.Goals as goal

pub returns-clause-after_each : goal.returns-clause-after_each
returns-clause-after_each c = λ key role claims.
    let (target, to) = (lo_view c.args.elf.now (seen c.args.relocation.now) key role claims).1 in
    let is = to.pair.is_call in
    let e = c.is_call_pair.ensures in
    let f = c.if-is_call_pair.false in
    absurd (cc)

pub call_claims-requires-clause-fits : goal.call_claims-requires-clause-fits
call_claims-requires-clause-fits c = c.requires.fits (seen c.args.relocation.now) c.requires.counts
