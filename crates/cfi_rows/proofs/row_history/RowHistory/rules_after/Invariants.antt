use Rattle.std.proofs.Common.{◌≡◌, drop}
use Rattle.cfi_rows.specs.RuleChanges.{after_changes}
use Rattle.cfi_rows.specs.RowHistories.{rules_after}
use Rattle.cfi_rows.proofs.row_history.RowHistory.rules_after.Given as goal

abbrev pub invariant-loop-change : goal.invariant-loop-change
invariant-loop-change l = after_changes l.rules (drop l.change-index l.left) ≡ rules_after l.self.changes.items l.count
