use Rattle.std.proofs.Common.{◌≡◌, ◌++◌, take, flat_map}
use Rattle.lookup_core.specs.Report.{register_rule}
use Rattle.lookup_core.proofs.unwind.put_rules.Given as goal

abbrev pub invariant-loop-rule : goal.invariant-loop-rule
invariant-loop-rule l = l.text.items ≡ l.initial.text.items ++ flat_map register_rule (take l.rule-index l.rules)
