use Rattle.std.proofs.Common.{sym, arith}
use Rattle.std.proofs.lemmas.Result.{err_from_is_err_and}
use Rattle.rb_bytes.specs.declared.fault.FaultKind.TheVariants.{NarrowDiff, IfuncOrPlt, AlreadyMoved}
use Rattle.elf_code.specs.ReferenceFaults.{HasReferenceFault}
use Rattle.elf_image.proofs.FaultOrder.{refused, went_on, stopped}
use Rattle.rv_reloc.proofs.faults.check_cells.Goals as goal

pub returns-in_err-refuse_at : goal.returns-in_err-refuse_at
returns-in_err-refuse_at c = λ tabled wholes before_12.
    let Has = HasReferenceFault c.args.elf.now tabled in
    let fault = stopped _ Has NarrowDiff _ _ _ c.refuse_at.ensures c.in_err-refuse_at.was (omega arith) before_12
    (c.lowest_narrow.ensures tabled wholes) in
    let p = err_from_is_err_and c.from_residual.result c.from_residual.ensures.1 in
    rw (p.1, p.2) fault

pub returns-in_err-refuse_at-2 : goal.returns-in_err-refuse_at-2
returns-in_err-refuse_at-2 c = λ tabled wholes before_12.
    let Has = HasReferenceFault c.args.elf.now tabled in
    let before_13 = went_on _ Has NarrowDiff _ _ c.refuse_at.ensures c.in_ok-refuse_at.was (omega arith) before_12
    (c.lowest_narrow.ensures tabled wholes) in
    let fault = stopped _ Has IfuncOrPlt _ _ _ c.refuse_at-2.ensures c.in_err-refuse_at-2.was
    (omega arith) before_13 c.lowest_ifunc_or_plt.ensures in
    let p = err_from_is_err_and c.from_residual-in_err-refuse_at-2.result c.from_residual-in_err-refuse_at-2.ensures.1 in
    rw (p.1, p.2) fault

pub returns : goal.returns
returns c = λ tabled wholes before_12.
    let Has = HasReferenceFault c.args.elf.now tabled in
    let before_13 = went_on _ Has NarrowDiff _ _ c.refuse_at.ensures c.in_ok-refuse_at.was (omega arith) before_12
    (c.lowest_narrow.ensures tabled wholes) in
    let before_14 = went_on _ Has IfuncOrPlt _ _ c.refuse_at-2.ensures c.in_ok-refuse_at-2.was
    (omega arith) before_13 c.lowest_ifunc_or_plt.ensures in
    refused _ Has AlreadyMoved _ _ c.refuse_at-3.ensures (omega arith) before_14
    (c.lowest_already_moved.ensures c.args.elf.now (sym c.deref.ensures.value))
