use Rattle.std.proofs.Common.{◌∙◌, ◌<◌, ap, arith, map}
use Rattle.std.specs.Rc.{rc_value}
use Rattle.cfi_rows.specs.RowHistories.{row_over, told_row}
use Rattle.cfi_rows.proofs.HistorySteps.{row-at, none-before, last-before}
use Rattle.cfi_rows.proofs.entry_rows.EntryRows.index_at.Goals as goal

pub returns-then-above-eq0-clause-row : goal.returns-then-above-eq0-clause-row
returns-then-above-eq0-clause-row c =
    let initial = (rc_value c.self.inside.initial).known.rules in
    let changes = c.self.inside.history.changes.items in
    let counted = row-at initial changes c.deref.result.now c.args.self.now c.args.address c.count_up_to-above.result
    (ap (λ rows. map (row_over initial) (map (told_row changes) rows)) c.deref.ensures.value ∙ c.self.view_is)
    c.count_up_to-above.ensures.bound c.count_up_to-above.ensures.below c.count_up_to-above.ensures.above in
    none-before c.args.address c.count_up_to-above.result c.args.self.now c.if-above-eq0.true counted

pub returns-else-above-eq0-clause-row : goal.returns-else-above-eq0-clause-row
returns-else-above-eq0-clause-row c =
    let initial = (rc_value c.self.inside.initial).known.rules in
    let changes = c.self.inside.history.changes.items in
    let counted = row-at initial changes c.deref.result.now c.args.self.now c.args.address c.count_up_to-above.result
    (ap (λ rows. map (row_over initial) (map (told_row changes) rows)) c.deref.ensures.value ∙ c.self.view_is)
    c.count_up_to-above.ensures.bound c.count_up_to-above.ensures.below c.count_up_to-above.ensures.above in
    let some : 0 < c.count_up_to-above.result = omega (arith, c.if-above-eq0.false) in
    last-before c.args.address c.count_up_to-above.result c.args.self.now some counted
