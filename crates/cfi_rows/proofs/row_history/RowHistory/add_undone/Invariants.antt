use Rattle.std.proofs.Common.{◌≡◌, [], drop, reverse}
use Rattle.cfi_rows.specs.FrameRows.{Rules}
use Rattle.cfi_rows.specs.RuleChanges.{after_changes}
use Rattle.cfi_rows.specs.RowHistories.{Keeps, Goes}
use Rattle.cfi_rows.proofs.row_history.RowHistory.add_undone.Given as goal

abbrev pub invariant-loop-count : goal.invariant-loop-count
invariant-loop-count l =
    (rules : Rules) → Keeps l.fn.self rules →
    Goes l.fn.self l.self (after_changes [] l.self.changes.items)
    × (after_changes (after_changes [] l.self.changes.items) (drop l.count (reverse l.changes)) ≡ after_changes rules (reverse l.changes))
