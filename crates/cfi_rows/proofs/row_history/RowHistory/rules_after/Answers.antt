use Rattle.std.proofs.Common.{◌∙◌, ap, take, drop, arith}
use Rattle.std.proofs.lemmas.Grind.{common_steps}
use Rattle.cfi_rows.specs.RuleChanges.{after_changes}
use Rattle.cfi_rows.proofs.HistorySteps.{found-again}
use Rattle.cfi_rows.proofs.row_history.RowHistory.rules_after.Goals as goal

pub loop-change-init : goal.loop-change-init
loop-change-init c =
    ap (after_changes c.in_ok-rules.rules) (c.split_at-2.ensures.back ∙ ap (drop c.in_ok-rules.from)
    (c.split_at.ensures.front ∙ ap (take c.args.count) c.deref.ensures.value))
    ∙ found-again c.args.self.now.changes.items c.in_ok-rules.rules c.in_ok-rules.from c.args.count c.in_ok-rules.ensures.within
    c.requires.within c.in_ok-rules.ensures.rules

pub loop-change-preserved : goal.loop-change-preserved
loop-change-preserved c = grind (arith, common_steps)

pub returns : goal.returns
returns c = grind (arith, common_steps)
