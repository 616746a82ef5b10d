use Rattle.std.proofs.Common.{◌∙◌, Some, None, option_map, ap}
use Rattle.std.specs.Rc.{rc_value}
use Rattle.cfi_rows.proofs.RuleLists.{taken-back}
use Rattle.cfi_rows.proofs.rules.RuleMap.replace.Goals as goal
use Rattle.cfi_rows.proofs.rules.RuleMap.replace.Goals.{in-Some+in_ok-before-in-Some, in-None}

pub returns-clause-undone : goal.returns-clause-undone
returns-clause-undone c = elim c.match-rule.branch [
  | in-Some+in_ok-before-in-Some w ↦
      taken-back c.args.register (Some (rc_value w.in-Some.rule)) c.args.self.now c.match-rule.self
      (option_map rc_value c.match-rule.before)
      w.in_ok-before-in-Some.ensures.ascends (w.self-is ∙ w.in_ok-before-in-Some.ensures.set)
      (ap (option_map rc_value) w.before-is ∙ w.in_ok-before-in-Some.ensures.had)
  | in-None w ↦
      taken-back c.args.register None c.args.self.now c.match-rule.self (option_map rc_value c.match-rule.before)
      w.remove-before.ensures.ascends (w.self-is ∙ w.remove-before.ensures.removed)
      (ap (option_map rc_value) w.before-is ∙ w.remove-before.ensures.had)
]
