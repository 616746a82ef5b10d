use Rattle.cfi_rows.proofs.HistorySteps.{taken-back}
use Rattle.cfi_rows.proofs.row_history.RowHistory.add_changes.Goals as goal

pub returns-in-RestoreState : goal.returns-in-RestoreState
returns-in-RestoreState c =
    taken-back c.add_undone.result c.args.self.now c.add_undone.new.self c.args.machine.now c.args.instruction.now c.deref.result.now
    c.in-RestoreState.is c.deref.ensures.value c.add_undone.ensures
