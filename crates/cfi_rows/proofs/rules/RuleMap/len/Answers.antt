use Rattle.std.proofs.Common.{subst}
use Rattle.std.specs.Rc.{rc_value}
use Rattle.cfi_rows.specs.RuleEntries.{Ascend}
use Rattle.cfi_rows.proofs.RuleLists.{ascending}
use Rattle.cfi_rows.proofs.rules.RuleMap.len.Goals as goal

pub returns-clause-ascends : goal.returns-clause-ascends
returns-clause-ascends c =
    subst (Ascend 0) c.self.view_is (ascending rc_value c.self.inside.by_register.entries c.len.ensures.ordered)
