use Rattle.std.proofs.Common.{◌≡◌, map}
use Rattle.std.specs.Rc.{rc_value}
use Rattle.cfi_rows.specs.RuleEntries.{valued}
use Rattle.cfi_rows.specs.RuleChanges.{over}
use Rattle.cfi_rows.proofs.rules.RuleMap.over.Given as goal

abbrev pub invariant-loop-register : goal.invariant-loop-register
invariant-loop-register l = over l.rules (map (valued rc_value) l.register-iterator) ≡ over l.others l.fn.self
