use Rattle.std.proofs.Common.{◌∙◌}
use Rattle.std.specs.Rc.{rc_value}
use Rattle.cfi_rows.proofs.RuleLists.{cloned}
use Rattle.cfi_rows.proofs.rules.RuleMap.shared.Goals as goal

pub returns : goal.returns
returns c = cloned rc_value c.self.inside.by_register.entries c.in_ok-by_register.by_register.entries c.in_ok-by_register.ensures.cases
    ∙ c.self.view_is
