use Rattle.std.proofs.Common.{[]}
use Rattle.std.proofs.lemmas.Result.{err_from_is_err_and}
use Rattle.cfi_rows.specs.FrameRows.{step, rows, then_rows}
use Rattle.cfi_rows.specs.RowMachines.{state_of}
use Rattle.cfi_rows.proofs.Failures.{fails_by}
use Rattle.cfi_rows.proofs.Stopping.{malformed}
use Rattle.cfi_rows.proofs.row_history.RowHistory.run.Goals as goal

pub returns-in_err-end_row-clause-err : goal.returns-in_err-end_row-clause-err
returns-in_err-end_row-clause-err c =
    let p = err_from_is_err_and c.from_residual.result c.from_residual.ensures.1 in
    rw (p.1, p.2)
    (fails_by c.in_err-end_row.field-0.0
    (λ h. λ is. h (then_rows (step [] c.args.instruction.now (state_of c.args.machine.now)) (rows [] is))) c.in_err-end_row.ensures.err)

pub returns-in_err-step-clause-err : goal.returns-in_err-step-clause-err
returns-in_err-step-clause-err c =
    let p = err_from_is_err_and c.from_residual-in_err-step.result c.from_residual-in_err-step.ensures.1 in
    rw (p.1, p.2)
    (fails_by c.in_err-step.field-0.0
    (λ h. λ is. malformed c.args.instruction.now (state_of c.args.machine.now) is h) c.in_err-step.ensures.err)
