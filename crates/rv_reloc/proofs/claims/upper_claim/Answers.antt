use Rattle.std.proofs.Common.{sym, refl, pos}
use Rattle.rv_reloc.specs.Records.{seen}
use Rattle.rv_reloc.proofs.UpperClaims.{upper_view, upper-claim, upper-address}
use Rattle.rv_reloc.proofs.PairTargets.{upper_low}
use Rattle.rb_bytes.proofs.Options.{none_some}
use Rattle.rv_reloc.proofs.claims.upper_claim.Goals as goal

pub first_low-requires : goal.first_low-requires
first_low-requires c = c.requires.lows.rising

pub returns-clause-is : goal.returns-clause-is
returns-clause-is c =
    upper-claim c.args.elf.now
    (seen c.args.relocation.now) c.in_ok-low.low c.in_ok-target.target c.requires.alike c.requires.counts c.requires.kind
    ((c.requires.lows.all c.in_ok-low.low).0 c.in_ok-low.ensures.is.0) c.in_ok-low.ensures.is.1 c.in_ok-target.ensures.is
    c.in_ok-target.ensures.once

pub returns-clause-each : goal.returns-clause-each
returns-clause-each c = λ key role claims.
    let (target, to, here, key_is, role_is) =
    upper_view c.args.elf.now (seen c.args.relocation.now) _ key role c.requires.kind claims in
    sym key_is

pub returns-in_err-target-clause-each : goal.returns-in_err-target-clause-each
returns-in_err-target-clause-each c = λ key role claims.
    let (target, to, here, key_is, role_is) =
    upper_view c.args.elf.now (seen c.args.relocation.now) _ key role c.requires.kind claims in
    absurd (upper-address c.args.elf.now (seen c.args.relocation.now) c.in_ok-low.low (pos target) c.requires.alike c.requires.fits
    ((c.requires.lows.all c.in_ok-low.low).0 c.in_ok-low.ensures.is.0) c.in_ok-low.ensures.is.1 to
    (λ is address. none_some _ c.in_err-target.was (c.low_address.ensures.each (pos target) is address)))

pub returns-in_err-low-clause-each : goal.returns-in_err-low-clause-each
returns-in_err-low-clause-each c = λ key role claims.
    let (target, to, here, key_is, role_is) =
    upper_view c.args.elf.now (seen c.args.relocation.now) _ key role c.requires.kind claims in
    absurd (none_some _ c.in_err-low.was
    (c.first_low.ensures.each _
    ((c.requires.lows.all _).1 (upper_low c.args.elf.now (seen c.args.relocation.now) (pos target) to)) refl))
