use Rattle.std.proofs.Common.{arith}
use Rattle.std.proofs.lemmas.Result.{err_from_is_err_and}
use Rattle.rb_bytes.specs.declared.fault.FaultKind.TheVariants.{ExecSegments, WritableCode, HighAddress, CompressedSection}
use Rattle.elf_image.specs.faults.FileFaults.{HasFault}
use Rattle.elf_image.proofs.FaultOrder.{refused, went_on, stopped}
use Rattle.elf_image.proofs.faults.check_places.Goals as goal

pub returns-in_err-refuse_at : goal.returns-in_err-refuse_at
returns-in_err-refuse_at c =
    let Has = HasFault c.args.file.now in
    let before_5 = c.requires.lacks in
    let fault =
    stopped _ Has ExecSegments _ _ _ c.refuse_at.ensures c.in_err-refuse_at.was (omega arith) before_5 c.requires.loading in
    let p = err_from_is_err_and c.from_residual.result c.from_residual.ensures.1 in
    rw (p.1, p.2) fault

pub returns-in_err-refuse_at-2 : goal.returns-in_err-refuse_at-2
returns-in_err-refuse_at-2 c =
    let Has = HasFault c.args.file.now in
    let before_5 = c.requires.lacks in
    let before_6 =
    went_on _ Has ExecSegments _ _ c.refuse_at.ensures c.in_ok-refuse_at.was (omega arith) before_5 c.requires.loading in
    let fault = stopped _ Has WritableCode _ _ _ c.refuse_at-2.ensures c.in_err-refuse_at-2.was
    (omega arith) before_6 c.lowest_writable_code.ensures in
    let p = err_from_is_err_and c.from_residual-in_err-refuse_at-2.result c.from_residual-in_err-refuse_at-2.ensures.1 in
    rw (p.1, p.2) fault

pub returns-in_err-refuse_at-3 : goal.returns-in_err-refuse_at-3
returns-in_err-refuse_at-3 c =
    let Has = HasFault c.args.file.now in
    let before_5 = c.requires.lacks in
    let before_6 =
    went_on _ Has ExecSegments _ _ c.refuse_at.ensures c.in_ok-refuse_at.was (omega arith) before_5 c.requires.loading in
    let before_7 =
    went_on _ Has WritableCode _ _ c.refuse_at-2.ensures c.in_ok-refuse_at-2.was
    (omega arith) before_6 c.lowest_writable_code.ensures in
    let fault = stopped _ Has HighAddress _ _ _ c.refuse_at-3.ensures c.in_err-refuse_at-3.was
    (omega arith) before_7 c.lowest_high_address.ensures in
    let p = err_from_is_err_and c.from_residual-in_err-refuse_at-3.result c.from_residual-in_err-refuse_at-3.ensures.1 in
    rw (p.1, p.2) fault

pub returns : goal.returns
returns c =
    let Has = HasFault c.args.file.now in
    let before_5 = c.requires.lacks in
    let before_6 =
    went_on _ Has ExecSegments _ _ c.refuse_at.ensures c.in_ok-refuse_at.was (omega arith) before_5 c.requires.loading in
    let before_7 =
    went_on _ Has WritableCode _ _ c.refuse_at-2.ensures c.in_ok-refuse_at-2.was
    (omega arith) before_6 c.lowest_writable_code.ensures in
    let before_8 =
    went_on _ Has HighAddress _ _ c.refuse_at-3.ensures c.in_ok-refuse_at-3.was
    (omega arith) before_7 c.lowest_high_address.ensures in
    refused _ Has CompressedSection _ _ c.refuse_at-4.ensures (omega arith) before_8
    (c.lowest_compressed.ensures c.args.file.now c.requires.sections)
