use Rattle.std.proofs.Common.{rules, ◌≡◌, ◌∙◌, ◌<◌, ◌≤◌, List, [], Some, get_or, sym, ap, subst, length, arith}
use Rattle.std.proofs.lemmas.Result.{err_from_is_err_and}
use Rattle.std.proofs.lemmas.Grind.{common_steps}
use Rattle.std.specs.Rc.{rc_value}
use Rattle.cfi_rows.specs.declared.instruction.Instruction.{Instruction}
use Rattle.cfi_rows.specs.FrameRows.{rows, begins}
use Rattle.cfi_rows.specs.RowMachines.{known_of, state_of}
use Rattle.cfi_rows.specs.RowHistories.{told_row, told}
use Rattle.cfi_rows.proofs.HistorySteps.{all-told, run-kept}
use Rattle.cfi_rows.proofs.RowLists.{starts-rise}
use Rattle.cfi_rows.proofs.Failures.{fails_by}
use Rattle.cfi_rows.proofs.Stopping.{stops, stops-last, run-stops}
use Rattle.cfi_rows.proofs.program.Program.run.Goals as goal

pub invariant_of-result : goal.invariant_of-result
invariant_of-result c =
    let is = c.args.self.now.instructions.items in
    let start = begins c.args.self.now.start (record { cfa = (known_of c.deref.result.now.known).cfa; rules = [] }) in
    let kept = c.in_ok-add_row.ensures.keeps c.loop-instruction.invariant.keeps in
    let e : rows [] is start ≡ Some (told c.add_row.new.self) =
    ap (rows [] is) (sym c.in_ok-machine.ensures)
    ∙ all-told is c.loop-instruction.instruction-index (state_of c.in_ok-machine.machine) c.loop-instruction.machine c.loop-instruction.history c.add_row.new.self
    (subst (λ (xs : List Instruction). length xs ≤ c.loop-instruction.instruction-index) c.deref-instruction-items.ensures.value
    c.loop-instruction-test.false)
    c.loop-instruction.invariant.rows (c.in_ok-add_row.ensures.rows c.loop-instruction.invariant.keeps) in
    (kept.within, (kept.right, (starts-rise (told_row c.add_row.new.self.changes.items) c.add_row.new.self.rows.items is start e, tt)))

pub returns-clause-rows : goal.returns-clause-rows
returns-clause-rows c =
    let is = c.args.self.now.instructions.items in
    let start = begins c.args.self.now.start (record { cfa = (known_of c.deref.result.now.known).cfa; rules = [] }) in
    let e : rows [] is start ≡ Some (told c.add_row.new.self) =
    ap (rows [] is) (sym c.in_ok-machine.ensures)
    ∙ all-told is c.loop-instruction.instruction-index (state_of c.in_ok-machine.machine) c.loop-instruction.machine c.loop-instruction.history c.add_row.new.self
    (subst (λ (xs : List Instruction). length xs ≤ c.loop-instruction.instruction-index) c.deref-instruction-items.ensures.value
    c.loop-instruction-test.false)
    c.loop-instruction.invariant.rows (c.in_ok-add_row.ensures.rows c.loop-instruction.invariant.keeps) in
    run-kept c.args.self.now c.deref.result.now (rc_value c.in_ok-clone.field-0) (told c.add_row.new.self) c.deref.ensures
    c.in_ok-clone.ensures.cases c.len.ensures.ascends e

pub loop-instruction-preserved : goal.loop-instruction-preserved
loop-instruction-preserved c = grind (arith, common_steps)

pub returns-in_err-run-clause-err : goal.returns-in_err-run-clause-err
returns-in_err-run-clause-err c =
    let is = c.args.self.now.instructions.items in
    let i = c.instruction-item.result in
    let k = c.loop-instruction.instruction-index in
    let l : k < length is = search rules in
    let g : get_or is k i ≡ i = search rules in
    let p = err_from_is_err_and c.from_residual-in_err-run.result c.from_residual-in_err-run.ensures.1 in
    rw (p.1, p.2)
    (fails_by c.in_err-run.field-0.0
    (λ h. run-stops c.args.self.now c.deref.result.now c.deref.ensures c.len.ensures.ascends
    (ap (rows [] is) (sym c.in_ok-machine.ensures)
    ∙ stops is k i (state_of c.loop-instruction.machine) (told c.loop-instruction.history) _ l g c.loop-instruction.invariant.rows h))
    c.in_err-run.ensures.err)

pub returns-in_err-add_row-clause-err : goal.returns-in_err-add_row-clause-err
returns-in_err-add_row-clause-err c =
    let is = c.args.self.now.instructions.items in
    let p = err_from_is_err_and c.from_residual-in_err-add_row.result c.from_residual-in_err-add_row.ensures.1 in
    rw (p.1, p.2)
    (fails_by c.in_err-add_row.field-0.0
    (λ h. run-stops c.args.self.now c.deref.result.now c.deref.ensures c.len.ensures.ascends
    (ap (rows [] is) (sym c.in_ok-machine.ensures)
    ∙ stops-last is c.loop-instruction.instruction-index (state_of c.loop-instruction.machine) (told c.loop-instruction.history) _
    (subst (λ (xs : List Instruction). length xs ≤ c.loop-instruction.instruction-index) c.deref-instruction-items.ensures.value
    c.loop-instruction-test.false)
    c.loop-instruction.invariant.rows h))
    c.in_err-add_row.ensures.err)
