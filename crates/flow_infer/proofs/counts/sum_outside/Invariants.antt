use Rattle.std.proofs.Common.{◌≡◌, take}
use Rattle.std.specs.Prelude.{not, sum_by, if◌then◌else◌}
use Rattle.rv_code.specs.layout.FunctionMembers.{func_holds}
use Rattle.flow_infer.proofs.counts.sum_outside.Given as goal

abbrev pub invariant-loop-pair : goal.invariant-loop-pair
invariant-loop-pair l = l.sum ≡ sum_by (λ p. if not (func_holds p.1 l.func) then p.2 else 0) (take l.pair-index l.pairs)
