use Rattle.std.proofs.Common.{ap, not}
use Rattle.elf_code.specs.ReferenceFaults.{IsMisfit}
use Rattle.rv_reloc.specs.Records.{seen}
use Rattle.rv_reloc.proofs.Absolutes.{bad-absolute}
use Rattle.rv_reloc.proofs.AbsoluteClaims.{absolute_view, absolute-claim}
use Rattle.rb_bytes.proofs.Options.{same_some, not_found}
use Rattle.rv_reloc.proofs.claims.absolute_claim.Goals as goal

pub returns-clause-is : goal.returns-clause-is
returns-clause-is c =
    absolute-claim c.args.elf.now
    (seen c.args.relocation.now) c.in_ok-target.target _ c.absolute_role.ensures c.requires.kind c.in_ok-target.ensures.there
    (c.has_absolute.ensures.0 c.if-not-has_absolute.false)

pub returns-clause-each : goal.returns-clause-each
returns-clause-each c = λ key role claims.
    same_some _ _ _ c.in_ok-target.was
    (c.absolute_target.ensures.only key
    (absolute_view c.args.elf.now (seen c.args.relocation.now) _ key role c.requires.kind claims).0)

pub returns-then-not-has_absolute-clause-each : goal.returns-then-not-has_absolute-clause-each
returns-then-not-has_absolute-clause-each c = λ key role claims.
    absurd (c.requires.fits
    (IsMisfit.absolute
    ((bad-absolute c.args.elf.now
    (seen c.args.relocation.now) c.in_ok-target.target c.has_absolute.result c.requires.kind c.in_ok-target.ensures.there
    (λ t part. same_some _ _ _ c.in_ok-target.was (c.absolute_target.ensures.only t part)) c.has_absolute.ensures).0
    (ap not c.if-not-has_absolute.true))))

pub returns-in_err-target-clause-each : goal.returns-in_err-target-clause-each
returns-in_err-target-clause-each c = λ key role claims.
    absurd (not_found _ _ c.in_err-target.was
    (c.absolute_target.ensures.only key
    (absolute_view c.args.elf.now (seen c.args.relocation.now) _ key role c.requires.kind claims).0))
