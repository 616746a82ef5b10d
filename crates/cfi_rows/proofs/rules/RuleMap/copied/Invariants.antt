use Rattle.std.proofs.Common.{◌≡◌, ◌++◌, map}
use Rattle.std.specs.Rc.{rc_value}
use Rattle.cfi_rows.specs.RuleEntries.{valued}
use Rattle.cfi_rows.proofs.rules.RuleMap.copied.Given as goal

abbrev pub invariant-loop-register : goal.invariant-loop-register
invariant-loop-register l = l.self ≡ l.rules.items ++ map (valued rc_value) l.register-iterator
