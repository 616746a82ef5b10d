use Rattle.std.proofs.Common.{arith}
use Rattle.std.proofs.lemmas.Result.{err_from_is_err_and}
use Rattle.rb_bytes.specs.declared.fault.FaultKind.TheVariants.{NotElf, Truncated, Flags, NotStatic}
use Rattle.elf_image.specs.faults.FileFaults.{HasFault}
use Rattle.elf_image.proofs.FaultOrder.{LacksBelow-none, refused, went_on, stopped}
use Rattle.elf_image.proofs.faults.check_structure.Goals as goal

pub returns-in_err-refuse_at-2-clause-checked : goal.returns-in_err-refuse_at-2-clause-checked
returns-in_err-refuse_at-2-clause-checked c =
    let Has = HasFault c.args.file.now in
    let before_1 = LacksBelow-none Has in
    let before_2 =
    went_on _ Has NotElf _ _ c.refuse_at.ensures c.in_ok-refuse_at.was (omega arith) before_1 c.lowest_not_elf.ensures in
    let fault = stopped _ Has Truncated _ _ _ c.refuse_at-2.ensures c.in_err-refuse_at-2.was
    (omega arith) before_2 c.lowest_truncated.ensures.lowest in
    let p = err_from_is_err_and c.from_residual-in_err-refuse_at-2.result c.from_residual-in_err-refuse_at-2.ensures.1 in
    rw (p.1, p.2) fault

pub returns-in_err-refuse_at-3-clause-checked : goal.returns-in_err-refuse_at-3-clause-checked
returns-in_err-refuse_at-3-clause-checked c =
    let Has = HasFault c.args.file.now in
    let before_1 = LacksBelow-none Has in
    let before_2 =
    went_on _ Has NotElf _ _ c.refuse_at.ensures c.in_ok-refuse_at.was (omega arith) before_1 c.lowest_not_elf.ensures in
    let before_3 =
    went_on _ Has Truncated _ _ c.refuse_at-2.ensures c.in_ok-refuse_at-2.was
    (omega arith) before_2 c.lowest_truncated.ensures.lowest in
    let fault = stopped _ Has Flags _ _ _ c.refuse_at-3.ensures c.in_err-refuse_at-3.was
    (omega arith) before_3 c.lowest_other_flags.ensures in
    let p = err_from_is_err_and c.from_residual-in_err-refuse_at-3.result c.from_residual-in_err-refuse_at-3.ensures.1 in
    rw (p.1, p.2) fault

pub returns-clause-checked : goal.returns-clause-checked
returns-clause-checked c =
    let Has = HasFault c.args.file.now in
    let before_1 = LacksBelow-none Has in
    let before_2 =
    went_on _ Has NotElf _ _ c.refuse_at.ensures c.in_ok-refuse_at.was (omega arith) before_1 c.lowest_not_elf.ensures in
    let before_3 =
    went_on _ Has Truncated _ _ c.refuse_at-2.ensures c.in_ok-refuse_at-2.was
    (omega arith) before_2 c.lowest_truncated.ensures.lowest in
    let before_4 =
    went_on _ Has Flags _ _ c.refuse_at-3.ensures c.in_ok-refuse_at-3.was (omega arith) before_3 c.lowest_other_flags.ensures in
    refused _ Has NotStatic _ _ c.refuse_at-4.ensures (omega arith) before_4 c.lowest_not_static.ensures
