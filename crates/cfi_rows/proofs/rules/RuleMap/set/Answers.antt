use Rattle.std.proofs.Common.{◌∙◌, option_map, ap, subst, map}
use Rattle.std.specs.Rc.{rc_value}
use Rattle.cfi_rows.specs.FrameRows.{rule_of, with_rule}
use Rattle.cfi_rows.specs.RuleEntries.{valued, Ascend}
use Rattle.cfi_rows.proofs.RuleLists.{inserted, looked-up, ascending}
use Rattle.cfi_rows.proofs.rules.RuleMap.set.Goals as goal

pub returns-in_err-insert-clause-ascends : goal.returns-in_err-insert-clause-ascends
returns-in_err-insert-clause-ascends c =
    subst (Ascend 0) c.self.view_is (ascending rc_value c.self.inside.by_register.entries c.insert.ensures.was_ordered)

pub returns-clause-set : goal.returns-clause-set
returns-clause-set c =
    ap (map (valued rc_value)) c.in_ok-insert.ensures.entries
    ∙ inserted rc_value c.args.register c.args.rule c.self.inside.by_register.entries
    ∙ ap (with_rule c.args.register (rc_value c.args.rule)) c.self.view_is

pub returns-clause-had : goal.returns-clause-had
returns-clause-had c =
    ap (option_map rc_value) c.in_ok-insert.ensures.old
    ∙ looked-up rc_value c.args.register c.self.inside.by_register.entries ∙ ap (rule_of c.args.register) c.self.view_is

pub returns-clause-ascends : goal.returns-clause-ascends
returns-clause-ascends c =
    subst (Ascend 0) c.self.view_is (ascending rc_value c.self.inside.by_register.entries c.insert.ensures.was_ordered)
