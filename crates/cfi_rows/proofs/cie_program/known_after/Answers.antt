use Rattle.std.proofs.Common.{rules, ◌≡◌, ◌<◌, length, get_or, arith}
use Rattle.std.proofs.lemmas.Result.{err_from_is_err_and}
use Rattle.std.proofs.lemmas.Grind.{common_steps}
use Rattle.cfi_rows.specs.RowMachines.{state_of}
use Rattle.cfi_rows.proofs.Failures.{fails_by}
use Rattle.cfi_rows.proofs.Stopping.{unknown-at}
use Rattle.cfi_rows.proofs.cie_program.known_after.Goals as goal

pub loop-instruction-preserved : goal.loop-instruction-preserved
loop-instruction-preserved c = grind (arith, common_steps)

pub returns-clause-known : goal.returns-clause-known
returns-clause-known c = grind (arith, common_steps)

pub returns-in_err-step-clause-err : goal.returns-in_err-step-clause-err
returns-in_err-step-clause-err c =
    let is = c.args.instructions.now in
    let i = c.instruction-item.result in
    let k = c.loop-instruction.instruction-index in
    let l : k < length is = search rules in
    let g : get_or is k i ≡ i = search rules in
    let p = err_from_is_err_and c.from_residual-in_err-step.result c.from_residual-in_err-step.ensures.1 in
    rw (p.1, p.2)
    (fails_by c.in_err-step.field-0.0
    (λ h. unknown-at is k i (state_of c.loop-instruction.machine) _ l g c.loop-instruction.invariant h) c.in_err-step.ensures.err)
