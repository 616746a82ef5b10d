use Rattle.std.proofs.Common.{sym}
use Rattle.elf_code.specs.ReferenceFaults.{IsMisfit}
use Rattle.rv_reloc.specs.Records.{seen}
use Rattle.rv_reloc.proofs.CallFaults.{unfit-bad}
use Rattle.rv_reloc.proofs.CallClaims.{hi-claim, hi_key}
use Rattle.rb_bytes.proofs.Options.{none_some}
use Rattle.rv_reloc.proofs.claims.call_claim.Goals as goal

pub returns-clause-is : goal.returns-clause-is
returns-clause-is c = λ elf counts (is, only).
    hi-claim elf (seen c.args.relocation.now) c.args.call.now c.in_ok-target.target counts c.requires.kind is only c.in_ok-target.ensures.is

pub returns-clause-each : goal.returns-clause-each
returns-clause-each c = λ elf counts call fits key role claims.
    sym (hi_key elf (seen c.args.relocation.now) key role c.requires.kind claims)

pub returns-in_err-target-clause-each : goal.returns-in_err-target-clause-each
returns-in_err-target-clause-each c = λ elf counts (is, only) fits key role claims.
    absurd (fits (IsMisfit.call
    (unfit-bad elf (seen c.args.relocation.now) c.args.call.now counts c.requires.kind is only
    (λ goes. none_some _ c.in_err-target.was (c.named.ensures.each goes)))))
