use Rattle.std.proofs.Common.{rules, ◌≡◌, ◌-◌, get_or, length}
use Rattle.cfi_rows.proofs.HistorySteps.{one-undone}
use Rattle.cfi_rows.proofs.row_history.RowHistory.add_undone.Goals as goal

pub loop-count-preserved : goal.loop-count-preserved
loop-count-preserved c = λ rs keeps.
    let cs = c.args.changes.now in
    let change = c.index-changes-changes.result in
    let item : get_or cs (length cs - 1 - c.loop-count.count) change ≡ change = search rules in
    one-undone c.args.self.now c.loop-count.self c.add_change.new.self rs cs c.loop-count.count change _ c.loop-count-test.true item
    c.in_ok-rule.ensures (c.loop-count.invariant rs keeps) c.in_ok-add_change.ensures
