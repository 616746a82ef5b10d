use Rattle.std.proofs.Common.{arith}
use Rattle.std.proofs.lemmas.Result.{err_from_is_err_and}
use Rattle.rb_bytes.specs.declared.fault.FaultKind.TheVariants.{RelocType, RelocMismatch, LoMismatch}
use Rattle.elf_code.specs.ReferenceFaults.{HasReferenceFault}
use Rattle.elf_image.proofs.FaultOrder.{refused, went_on, stopped}
use Rattle.rv_reloc.proofs.ReferenceFaultOrder.{lacks_others}
use Rattle.rv_reloc.proofs.faults.check_relocations.Goals as goal

pub returns-in_err-refuse_at : goal.returns-in_err-refuse_at
returns-in_err-refuse_at c = λ elf tabled records lows mismatch.
    let Has = HasReferenceFault elf tabled in
    let fault = stopped _ Has RelocType _ _ _ c.refuse_at.ensures c.in_err-refuse_at.was (omega arith)
    (lacks_others elf tabled) (c.lowest_reloc_type.ensures elf records) in
    let p = err_from_is_err_and c.from_residual.result c.from_residual.ensures.1 in
    rw (p.1, p.2) fault

pub returns-in_err-refuse_at-2 : goal.returns-in_err-refuse_at-2
returns-in_err-refuse_at-2 c = λ elf tabled records lows mismatch.
    let Has = HasReferenceFault elf tabled in
    let before_10 = went_on _ Has RelocType _ _ c.refuse_at.ensures c.in_ok-refuse_at.was (omega arith)
    (lacks_others elf tabled) (c.lowest_reloc_type.ensures elf records) in
    let fault =
    stopped _ Has RelocMismatch _ _ _ c.refuse_at-2.ensures c.in_err-refuse_at-2.was (omega arith) before_10 mismatch in
    let p = err_from_is_err_and c.from_residual-in_err-refuse_at-2.result c.from_residual-in_err-refuse_at-2.ensures.1 in
    rw (p.1, p.2) fault

pub returns : goal.returns
returns c = λ elf tabled records lows mismatch.
    let Has = HasReferenceFault elf tabled in
    let before_10 = went_on _ Has RelocType _ _ c.refuse_at.ensures c.in_ok-refuse_at.was (omega arith)
    (lacks_others elf tabled) (c.lowest_reloc_type.ensures elf records) in
    let before_11 =
    went_on _ Has RelocMismatch _ _ c.refuse_at-2.ensures c.in_ok-refuse_at-2.was (omega arith) before_10 mismatch in
    refused _ Has LoMismatch _ _ c.refuse_at-3.ensures (omega arith) before_11 (c.lowest_low_mismatch.ensures elf lows)
