use Rattle.std.proofs.Common.{◌∙◌, ◌<◌, ◌≤◌, ℕ, ap, arith, map, length, subst, sym, get_or, List}
use Rattle.std.specs.Rc.{rc_value}
use Rattle.cfi_rows.specs.declared.row_history.KeptRow.{KeptRow}
use Rattle.cfi_rows.specs.RowHistories.{row_over, told_row}
use Rattle.cfi_rows.proofs.HistorySteps.{row-at}
use Rattle.cfi_rows.proofs.entry_rows.EntryRows.last_alike.Goals as goal

pub last_before-requires-clause-above : goal.last_before-requires-clause-above
last_before-requires-clause-above c =
    subst (λ (l : List KeptRow). (k : ℕ) (d : KeptRow) → c.count_up_to-above.result ≤ k → k < length l → c.args.a < (get_or l k d).start)
    (c.deref.ensures.value ∙ sym c.deref-2.ensures.value) c.count_up_to-above.ensures.above

pub returns : goal.returns
returns c = λ x from to.
    let initial = (rc_value c.self.inside.initial).known.rules in
    let changes = c.self.inside.history.changes.items in
    let n : ℕ = c.count_up_to-above.result in
    let rows : List KeptRow = c.deref.result.now in
    let is = ap (λ rows. map (row_over initial) (map (told_row changes) rows)) c.deref.ensures.value ∙ c.self.view_is in
    let below : (k : ℕ) (d : KeptRow) → k < n → (get_or rows k d).start ≤ x =
    λ k d lt. let low : (get_or rows k d).start ≤ c.args.a = c.count_up_to-above.ensures.below k d lt in omega (arith, low, from) in
    let above : (k : ℕ) (d : KeptRow) → n ≤ k → k < length rows → x < (get_or rows k d).start =
    subst (λ (l : List KeptRow). (k : ℕ) (d : KeptRow) → n ≤ k → k < length l → x < (get_or l k d).start)
    (c.deref-2.ensures.value ∙ sym c.deref.ensures.value)
    (λ k d le within. c.last_before.ensures x k d to le within) in
    row-at initial changes rows c.args.self.now x n is c.count_up_to-above.ensures.bound below above
    ∙ sym (row-at initial changes rows c.args.self.now c.args.a n is c.count_up_to-above.ensures.bound c.count_up_to-above.ensures.below
    c.count_up_to-above.ensures.above)
