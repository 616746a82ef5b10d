use Rattle.elf_code.specs.ReferenceFaults.{IsMisfit}
use Rattle.rv_reloc.specs.Records.{seen}
use Rattle.rv_reloc.proofs.CallFaults.{bad-none, pair_call}
use Rattle.rv_reloc.proofs.CallClaims.{lo_view}
use Rattle.rb_bytes.proofs.Options.{same_some, not_found}
use Rattle.rv_reloc.proofs.claims.call_claims.Goals as goal

pub returns-in-Some-clause-is : goal.returns-in-Some-clause-is
returns-in-Some-clause-is c =
    c.call_claim-upper.ensures.is c.args.elf.now c.requires.counts
    (c.in-Some.ensures.there, λ d is. same_some _ _ _ c.in-Some.is (c.call_at.ensures.only d is))

pub returns-in-Some-clause-each : goal.returns-in-Some-clause-each
returns-in-Some-clause-each c =
    c.call_claim-upper.ensures.each c.args.elf.now c.requires.counts
    (c.in-Some.ensures.there, λ d is. same_some _ _ _ c.in-Some.is (c.call_at.ensures.only d is)) c.requires.fits

pub returns-in-Some-clause-low_is : goal.returns-in-Some-clause-low_is
returns-in-Some-clause-low_is c =
    c.call_low_claim-lower.ensures.is c.args.elf.now c.requires.counts
    (c.in-Some.ensures.there, λ d is. same_some _ _ _ c.in-Some.is (c.call_at.ensures.only d is))

pub returns-in-Some-clause-low_each : goal.returns-in-Some-clause-low_each
returns-in-Some-clause-low_each c =
    c.call_low_claim-lower.ensures.each c.args.elf.now
    (c.in-Some.ensures.there, λ d is. same_some _ _ _ c.in-Some.is (c.call_at.ensures.only d is)) c.requires.fits

pub returns-in-None-clause-each : goal.returns-in-None-clause-each
returns-in-None-clause-each c = λ key role claims.
    absurd (c.requires.fits
    (IsMisfit.call
    (bad-none c.args.elf.now (seen c.args.relocation.now) c.requires.kind
    (λ d is. not_found _ _ c.in-None.is (c.call_at.ensures.only d is)))))

pub returns-in-None-clause-low_each : goal.returns-in-None-clause-low_each
returns-in-None-clause-low_each c = λ key role claims.
    let (target, to) = (lo_view c.args.elf.now (seen c.args.relocation.now) key role claims).1 in
    absurd (not_found _ _ c.in-None.is (c.call_at.ensures.only _ (pair_call c.args.elf.now (seen c.args.relocation.now) to.pair)))
