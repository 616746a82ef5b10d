use Rattle.std.proofs.Common.{◌∙◌, sym, ap, subst, pos}
use Rattle.rv_reloc.specs.declared.lows.Low.{Low}
use Rattle.rv_reloc.specs.Pairs.{IsTargetOf}
use Rattle.rv_reloc.specs.Records.{seen}
use Rattle.rv_reloc.proofs.UpperClaims.{lower_view, lower-claim, lower-address, part_low}
use Rattle.rv_reloc.proofs.PairTargets.{lower_target}
use Rattle.rb_bytes.proofs.Options.{same_some, not_found, none_some}
use Rattle.rv_reloc.proofs.claims.lower_claim.Goals as goal

pub returns-clause-is : goal.returns-clause-is
returns-clause-is c =
    lower-claim c.args.elf.now
    (seen c.args.relocation.now) c.in_ok-low.low c.in_ok-target.target c.requires.counts c.requires.kind
    c.in_ok-low.ensures.is
    (λ m is. same_some _ _ _ c.in_ok-low.was
    (c.low_of.ensures.only m is)) c.in_ok-target.ensures.is c.in_ok-target.ensures.once

pub returns-clause-each : goal.returns-clause-each
returns-clause-each c = λ key role claims.
    let (hi, target, to, here, key_is, role_is) =
    lower_view c.args.elf.now (seen c.args.relocation.now) _ key role c.requires.kind claims in
    let same = same_some _ _ _ c.in_ok-low.was
    (c.low_of.ensures.only _ (part_low c.args.elf.now (seen c.args.relocation.now) hi to.lower to.part)) in
    ap (λ (l : Low). l.hi) same ∙ sym key_is

pub returns-in_err-target-clause-each : goal.returns-in_err-target-clause-each
returns-in_err-target-clause-each c = λ key role claims.
    let (hi, target, to, here, key_is, role_is) =
    lower_view c.args.elf.now (seen c.args.relocation.now) _ key role c.requires.kind claims in
    let same = same_some _ _ _ c.in_ok-low.was
    (c.low_of.ensures.only _ (part_low c.args.elf.now (seen c.args.relocation.now) hi to.lower to.part)) in
    let is = subst (λ (l : Low). IsTargetOf c.args.elf.now l (pos target)) (sym same)
    (lower_target c.args.elf.now (seen c.args.relocation.now) hi (pos target) to) in
    absurd (lower-address c.args.elf.now (seen c.args.relocation.now) c.in_ok-low.low
    (pos target) c.requires.fits c.requires.counts c.requires.kind c.in_ok-low.ensures.is is
    (λ address. none_some _ c.in_err-target.was (c.low_address.ensures.each (pos target) is address)))

pub returns-in_err-low-clause-each : goal.returns-in_err-low-clause-each
returns-in_err-low-clause-each c = λ key role claims.
    let (hi, target, to, here, key_is, role_is) =
    lower_view c.args.elf.now (seen c.args.relocation.now) _ key role c.requires.kind claims in
    absurd (not_found _ _ c.in_err-low.was
    (c.low_of.ensures.only _ (part_low c.args.elf.now (seen c.args.relocation.now) hi to.lower to.part)))
