use Rattle.std.proofs.Common.{◌≡◌, length}
use Rattle.bolt_core.proofs.carrying.new_starts.Given as goal

abbrev pub invariant-loop-func : goal.invariant-loop-func
invariant-loop-func l = length l.starts.items ≡ l.func-index
