use Rattle.std.proofs.Common.{◌∙◌, option_map, ap, subst, map}
use Rattle.std.specs.Rc.{rc_value}
use Rattle.cfi_rows.specs.FrameRows.{rule_of, without_rule}
use Rattle.cfi_rows.specs.RuleEntries.{valued, Ascend}
use Rattle.cfi_rows.proofs.RuleLists.{removed, looked-up, ascending}
use Rattle.cfi_rows.proofs.rules.RuleMap.remove.Goals as goal

pub returns-clause-removed : goal.returns-clause-removed
returns-clause-removed c =
    ap (map (valued rc_value)) c.remove.ensures.entries
    ∙ removed rc_value c.args.register c.self.inside.by_register.entries ∙ ap (without_rule c.args.register) c.self.view_is

pub returns-clause-had : goal.returns-clause-had
returns-clause-had c =
    ap (option_map rc_value) c.remove.ensures.value
    ∙ looked-up rc_value c.args.register c.self.inside.by_register.entries ∙ ap (rule_of c.args.register) c.self.view_is

pub returns-clause-ascends : goal.returns-clause-ascends
returns-clause-ascends c =
    subst (Ascend 0) c.self.view_is (ascending rc_value c.self.inside.by_register.entries c.len.ensures.ordered)
