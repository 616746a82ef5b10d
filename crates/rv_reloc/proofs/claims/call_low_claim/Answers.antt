use Rattle.std.proofs.Common.{sym}
use Rattle.elf_code.specs.ReferenceFaults.{IsMisfit}
use Rattle.rv_reloc.specs.Records.{seen}
use Rattle.rv_reloc.proofs.CallClaims.{lo-claim, lo_view, no_target}
use Rattle.rb_bytes.proofs.Options.{none_some}
use Rattle.rv_reloc.proofs.claims.call_low_claim.Goals as goal

pub returns-clause-is : goal.returns-clause-is
returns-clause-is c = λ elf counts (is, only).
    lo-claim elf (seen c.args.relocation.now) c.args.call.now c.in_ok-target.target counts c.requires.kind is only c.in_ok-target.ensures.is

pub returns-clause-each : goal.returns-clause-each
returns-clause-each c = λ elf call fits key role claims.
    sym (lo_view elf (seen c.args.relocation.now) key role claims).0

pub returns-in_err-target-clause-each : goal.returns-in_err-target-clause-each
returns-in_err-target-clause-each c = λ elf (is, only) fits key role claims.
    let (target, to) = (lo_view elf (seen c.args.relocation.now) key role claims).1 in
    absurd (no_target elf (seen c.args.relocation.now) c.args.call.now target (λ bad. fits (IsMisfit.call bad)) only
    (λ through address. none_some _ c.in_err-target.was (c.target.ensures.each through address)) to)
