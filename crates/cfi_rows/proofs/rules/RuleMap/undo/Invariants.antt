use Rattle.std.proofs.Common.{◌≡◌, length, reverse}
use Rattle.cfi_rows.specs.RuleChanges.{after_changes}
use Rattle.cfi_rows.proofs.rules.RuleMap.undo.Given as goal

abbrev pub invariant-loop-change : goal.invariant-loop-change
invariant-loop-change l = after_changes l.self (reverse l.left.items) ≡ after_changes l.fn.self (reverse l.fn.changes.items)

abbrev pub decreases-loop-change : goal.decreases-loop-change
decreases-loop-change l = length l.left.items
